-- The laws of lists, of packed rows and of the table's view.

pub mod Lists
pub mod Parts
pub mod Scans
pub mod Packing
pub mod Laws
pub mod Searches
