pub mod RowOrder
pub mod Tests
