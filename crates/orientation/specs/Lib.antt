pub mod Orientations
pub mod Rows
