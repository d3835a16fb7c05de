-- What the grammar and the reading come to, and what the proofs of functions use.
pub mod Lines
mod Parts
mod Rows
pub mod Meaning
mod Examples
pub mod OneAnswer
