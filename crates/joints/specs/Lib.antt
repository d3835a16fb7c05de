pub mod Table
pub mod Sorting
pub mod Keys
pub mod Tables
