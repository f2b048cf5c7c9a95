-- Laws of the windows, for the layers above.
pub mod Laws
