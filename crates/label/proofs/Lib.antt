pub mod Labels
pub mod Accepted
pub mod OneAnswer
