-- The sum of bytes handed over: what the loop that makes it uses, and callers.
pub mod Sums
