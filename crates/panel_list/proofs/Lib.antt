-- What chunks print together is what the script prints; and what the proofs of functions use.
pub mod Whole
mod Shifted
mod Printed
mod Going
mod Chunked
mod Reading
