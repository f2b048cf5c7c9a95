-- What the contracts of `trace_events` cite.
pub mod Numbers
pub mod Format
pub mod Calls
