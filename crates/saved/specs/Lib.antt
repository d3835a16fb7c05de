pub mod File
pub mod Reading
pub mod Answers
pub mod Request5
