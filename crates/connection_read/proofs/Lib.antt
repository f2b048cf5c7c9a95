-- Laws of reading, without code.
pub mod Draws
pub mod Rows
pub mod Calls
pub mod Unique
