-- What any calls on a new connection leave in the code's own state.
pub mod Lives
pub mod Credit
