-- What the proofs of functions use.
mod Refusing
