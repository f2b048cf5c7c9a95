-- The stream table in lent cells: what six cells say of a slot, and where each slot's cells are.
pub mod Rows
pub mod Table
