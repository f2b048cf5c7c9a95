-- Laws that the proofs of the drop share.
pub mod Dropping
