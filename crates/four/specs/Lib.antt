pub mod Plans
pub mod Edits
pub mod Listing
pub mod Check
pub mod Rules
pub mod Calls
pub mod Four
pub mod Request1
