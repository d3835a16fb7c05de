pub mod Commands
pub mod Grammar
pub mod Reading
pub mod Fronts
