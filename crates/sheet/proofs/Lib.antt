-- Wires: geometry and row order.
pub mod Points
pub mod Geometry
pub mod Before
pub mod Wiring
-- Splitting.
pub mod Pieces
pub mod Split
pub mod SplitWired
-- Merging.
pub mod Held
pub mod Merged
pub mod Seams
pub mod Merge
-- The wire edit.
pub mod Reach
pub mod Rest
pub mod Laid
pub mod LaidClear
pub mod LaidWired
pub mod TracedRun
pub mod Traced
pub mod LaidAgain
pub mod LaidPieces
pub mod Run
-- Joint rows.
pub mod Numbers
pub mod Bump
pub mod JointRows
pub mod Totals
-- Components, and the edits of a sheet.
pub mod Boxes
pub mod Square
pub mod Parts
pub mod Edits
pub mod Placing
pub mod Turn
pub mod Room
-- The rules.
pub mod RowOrder
pub mod Rule4
pub mod MergeCount
pub mod Rules
pub mod Owned
-- The drawing board.
pub mod Examples
