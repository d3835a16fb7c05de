pub mod Coding
pub mod Flagging
pub mod Merging
