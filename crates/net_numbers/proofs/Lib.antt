-- Laws on the net numbers of a drawing. `Numbered` has the theorem.
pub mod Numbered
mod Keys
mod Filling
mod Drawn
