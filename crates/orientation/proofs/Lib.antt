pub mod Eight
pub mod Turns
pub mod OneAnswer
