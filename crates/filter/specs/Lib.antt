-- What the contracts of `filter`, and of the programs over it, cite.
pub mod Account
pub mod Parts
