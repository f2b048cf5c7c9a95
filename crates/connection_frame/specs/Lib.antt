-- What a frame does, on every input and from a valid state.
pub mod Shown
pub mod Handles
