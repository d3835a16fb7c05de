pub mod Drawn
pub mod Close
