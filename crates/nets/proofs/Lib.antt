-- Laws on nets and their numbers. `Told`, `Same` and `Engine` have the theorems.
pub mod At
pub mod Chains
pub mod Rows
pub mod Tells
pub mod Order
pub mod Numbering
pub mod Told
pub mod Same
pub mod Engine
mod Tabulate
mod Roots
mod Flat
mod Rooted
mod Walks
mod Ranks
mod Examples
