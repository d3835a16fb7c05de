pub mod Lists
pub mod Tables
pub mod Span
pub mod First
