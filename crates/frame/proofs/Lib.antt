pub mod Wire
pub mod Flags
