-- Laws that the proofs of new and open share.
pub mod Starting
pub mod Opening
pub mod Unique
