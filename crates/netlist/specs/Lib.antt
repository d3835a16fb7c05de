pub mod Answers
pub mod Demand3
pub mod Request2
