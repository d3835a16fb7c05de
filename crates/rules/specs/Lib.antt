pub mod Touching
pub mod Check
pub mod Verdict
pub mod Steps
