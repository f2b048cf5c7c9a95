-- What a read promises, and what its parts do.
pub mod Promises
