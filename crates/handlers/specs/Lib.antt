-- The handlers on values, and what an action does to a connection.
pub mod Actions
pub mod Perform
pub mod Locals
