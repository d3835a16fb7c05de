pub mod Cases
pub mod Growing
