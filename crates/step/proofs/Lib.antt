-- What the proofs of functions use, and what a script comes to.
pub mod Choosing
pub mod Outside
pub mod Kept
pub mod Lawfulness
mod Asking
pub mod Stepping
pub mod Fitting
pub mod Long
