pub mod Request14
pub mod ExistingWire
pub mod Request4
