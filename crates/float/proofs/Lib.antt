pub mod Signed
pub mod Nearness
pub mod Rounded
pub mod Sums
pub mod Products
pub mod Units
pub mod Drawn
