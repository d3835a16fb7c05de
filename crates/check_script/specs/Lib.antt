pub mod Saying
pub mod Counts
pub mod Reading
pub mod Grammar
