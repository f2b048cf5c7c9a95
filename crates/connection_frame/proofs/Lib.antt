-- Laws that the proofs of the frames share.
pub mod Walk
pub mod Sees
pub mod Arrives
pub mod Orders
