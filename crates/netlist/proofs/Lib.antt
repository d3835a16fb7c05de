-- Laws on the wiring list. `Demand3` has the theorem, `Request2` what `loose` tells.
pub mod Told
pub mod Sheets
pub mod Demand3
pub mod Request2
mod Examples
