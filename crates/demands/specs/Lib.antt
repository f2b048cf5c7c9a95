-- What the three demands speak of, over the rules of document 01.
pub mod Demands
pub mod History
pub mod Theorems
pub mod Ledger
pub mod Handles
pub mod Progress
pub mod Waits
pub mod Witnesses
