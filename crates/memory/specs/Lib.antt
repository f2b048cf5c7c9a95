-- The slots that lent memory holds, when it is valid, and what each operation does to them.
pub mod Slots
pub mod Counts
pub mod Moves
pub mod Unique
