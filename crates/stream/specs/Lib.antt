-- One stream: its state, and its part of each rule of document 01.
pub mod States
pub mod Streams
