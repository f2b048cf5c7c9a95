-- Document 01, "Windows and pings": the sentences on windows.
pub mod Windows
