pub mod Chaining
pub mod Seeking
