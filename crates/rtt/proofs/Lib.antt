-- Laws of the pings, for the layers above.
pub mod Laws
