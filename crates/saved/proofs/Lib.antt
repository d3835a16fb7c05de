pub mod Rows
pub mod Parts
pub mod Sheets
pub mod Files
pub mod Lengths
pub mod Looks
pub mod Request5
mod Examples
