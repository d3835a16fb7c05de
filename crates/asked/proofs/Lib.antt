pub mod Handed
pub mod Ranges
pub mod Asked
pub mod Within
pub mod OneAnswer
