pub mod Numbered
pub mod Tables
pub mod Files
pub mod Timed
