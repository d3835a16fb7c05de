pub mod Ordered
pub mod Linking
pub mod Running
pub mod Seen
pub mod Touching
pub mod Sound
