-- What the contracts of `trace_lines` cite.
pub mod Line
pub mod Writing
