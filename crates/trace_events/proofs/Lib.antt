pub mod AnyGroups
pub mod Groups
pub mod Inside
pub mod More
pub mod Moved
pub mod Settings
pub mod Examples
