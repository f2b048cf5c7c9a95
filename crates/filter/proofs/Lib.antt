-- Laws of reading in parts.
pub mod Feeding
