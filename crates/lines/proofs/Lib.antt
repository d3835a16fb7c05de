-- What the lines of an input are, what runs over them come to, and what the proofs of functions use.
pub mod Cutting
pub mod Holding
pub mod Once
pub mod Runs
pub mod Running
