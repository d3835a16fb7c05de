-- Laws for whoever puts bytes or numbers.
pub mod Puts
pub mod Decimals
pub mod Buffers
pub mod Loops
mod Signs
mod Examples
