-- How the lines of a list are spelled, and how long it is.
pub mod Spelling
pub mod Lengths
mod Rows
