pub mod Single
pub mod Names
pub mod Deciding
pub mod HowMany
pub mod Padded
pub mod Occurring
pub mod Walking
mod Examples
