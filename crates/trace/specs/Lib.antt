-- What the contracts of `trace` cite.
pub mod Runs
pub mod Applies
pub mod Turns
pub mod Output
pub mod Unique
