-- What the proofs of functions use.
pub mod Telling
pub mod Behind
mod Commands
