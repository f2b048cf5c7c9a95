-- What each call of the connection promises.
pub mod Abstract
pub mod Parts
pub mod Promises
pub mod Unique
