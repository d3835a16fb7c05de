mod Sheets
mod Lists
mod Drawings
mod Edits
mod Check
mod Rules
mod Symbols
mod Back
pub mod Request1
