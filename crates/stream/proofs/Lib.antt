-- Laws of one stream, for its proofs and the layers above.
pub mod Closes
pub mod Laws
pub mod Examples
