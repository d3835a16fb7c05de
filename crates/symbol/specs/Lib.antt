pub mod Symbols
pub mod Steps
pub mod Boxes
pub mod Replies
pub mod Answers
