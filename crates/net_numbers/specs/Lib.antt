pub mod Netted
pub mod Found
