pub mod Moving
pub mod Tables
pub mod Symbols
pub mod Exact
mod Sides
pub mod Boxes
pub mod Replies
