-- Document 01, "Windows and pings": the sentences on pings.
pub mod Pings
