pub mod Told
pub mod Fitting
