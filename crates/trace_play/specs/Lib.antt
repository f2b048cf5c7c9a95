-- What the contracts of `trace_play` cite.
pub mod Places
pub mod Plays
