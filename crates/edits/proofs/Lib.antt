pub mod Making
pub mod Steps
pub mod Placing
pub mod OneAnswer
