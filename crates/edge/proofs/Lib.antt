pub mod Whole
pub mod Coordinates
pub mod Sizes
pub mod OneAnswer
