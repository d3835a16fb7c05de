pub mod Running
pub mod Marking
pub mod Cutting
pub mod Pointed
pub mod Crossed
pub mod Crossing
pub mod Adding
pub mod Laying
