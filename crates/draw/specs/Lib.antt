pub mod Symbols
pub mod Answers
pub mod Transforms
pub mod Bound
