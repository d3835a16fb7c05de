-- What chunks leave together is what the script leaves; and what the proofs of functions use.
pub mod Whole
mod Refusals
mod Taken
mod Reading
mod Ending
