pub mod Tables
pub mod Sketches
