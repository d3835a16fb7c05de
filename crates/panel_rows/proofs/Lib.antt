-- What the proofs of functions use.
mod Behind
mod Fitted
