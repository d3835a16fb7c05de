pub mod Blank
pub mod Decides
pub mod Rooms
