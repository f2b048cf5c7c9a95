-- The proofs of `Lives`.
pub mod Lives
