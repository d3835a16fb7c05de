mod Showing
pub mod Longer
