-- What a new connection is, and what opening a stream promises.
pub mod Start
pub mod Open
pub mod Unique
