pub mod Loose
pub mod Counting
pub mod Walking
