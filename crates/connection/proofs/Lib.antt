-- Laws that the proofs of the calls share.
pub mod Promises
pub mod Tests
pub mod Moving
pub mod Ids
pub mod Ending
pub mod Unique
