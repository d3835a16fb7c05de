pub mod Joined
pub mod Nets
pub mod Numbers
pub mod Tables
