-- Laws and worked examples of the rules.
pub mod Lists
pub mod Counts
pub mod Judging
pub mod Examples
