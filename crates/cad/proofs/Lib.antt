pub mod Answers
pub mod Asked
pub mod Positions
pub mod Marks
pub mod Components
pub mod Bound
pub mod Ways
