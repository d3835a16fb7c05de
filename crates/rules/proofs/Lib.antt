pub mod Decides
pub mod Check
pub mod Found
pub mod Counted
pub mod Pairs
pub mod Answers
pub mod OneAnswer
