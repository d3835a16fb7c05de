pub mod Calls
pub mod Acts
