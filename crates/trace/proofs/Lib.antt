-- Laws of runs, and of the calls that they make.
pub mod Steps
pub mod Parts
pub mod Silent
pub mod Applying
pub mod Showing
pub mod Turning
pub mod Running
pub mod Whole
pub mod Remaining
pub mod Unique
pub mod Examples
