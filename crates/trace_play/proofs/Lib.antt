-- What the loop's proofs share, and what is proved of the whole.
pub mod Nearing
pub mod Acting
pub mod Turning
pub mod Accounts
pub mod Starting
pub mod Tried
