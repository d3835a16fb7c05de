pub mod Told
pub mod Laws
mod Cuts
pub mod Codes
pub mod Looks
pub mod Held
pub mod Reading
