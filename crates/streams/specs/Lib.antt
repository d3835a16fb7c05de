pub mod Reads
pub mod Sums
pub mod Writes
