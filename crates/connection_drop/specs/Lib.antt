-- What the drop of a handle promises, and what its parts do.
pub mod Given
pub mod Parts
