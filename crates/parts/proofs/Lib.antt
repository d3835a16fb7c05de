pub mod Fitting
pub mod Listing
pub mod Inserting
pub mod Touching
