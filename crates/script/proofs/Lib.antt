-- What the grammar and the reading come to, and what the proofs of functions use.
pub mod Parts
pub mod Meaning
pub mod Labels
pub mod Room
pub mod Digits
pub mod Longer
mod Examples
pub mod OneAnswer
