pub mod Stored
pub mod Texts
pub mod Laws
pub mod Examples
