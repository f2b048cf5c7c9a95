-- Laws of the handlers: what a new stream takes, and that performing an action is what the rules say.
pub mod Firsts
pub mod Rules
pub mod Locals
