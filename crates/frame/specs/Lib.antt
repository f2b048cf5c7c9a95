-- The Yamux specification's header, and what the contracts of `frame` cite.
pub mod Header
pub mod Wire
