pub mod Numbers
pub mod Building
pub mod Rowing
pub mod Timing
mod Filing
