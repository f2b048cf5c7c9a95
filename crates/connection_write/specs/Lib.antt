-- What the calls promise beside the rules' step: the sizes that they test, and the body of a write.
pub mod Given
pub mod Parts
