pub mod Request14
pub mod ExistingWire
pub mod Rooms
pub mod Request4
