-- The laws of valid memory, and of what a change of one slot leaves.
pub mod Lists
pub mod Laws
pub mod Ranges
pub mod Starts
pub mod Changes
pub mod Ends
pub mod Unique
