pub mod Asked
pub mod Rows
