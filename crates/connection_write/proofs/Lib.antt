-- Laws that the proofs of the calls share.
pub mod Handles
pub mod Writes
