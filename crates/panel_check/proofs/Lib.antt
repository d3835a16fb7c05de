-- Laws that the proofs of functions use, and examples of what is printed.
pub mod Standing
pub mod Going
pub mod Reading
pub mod Ending
pub mod Examples
