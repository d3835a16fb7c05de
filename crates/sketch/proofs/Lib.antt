-- Laws that the proofs of functions use.
pub mod Inserting
pub mod Adding
pub mod OneAnswer
