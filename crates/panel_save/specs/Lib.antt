pub mod Saving
pub mod Taking
