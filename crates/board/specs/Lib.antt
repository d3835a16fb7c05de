pub mod Calling
pub mod Table
