-- Boxes that share a point: the test, and that it goes both ways.
pub use Rattle.symbol.proofs.Boxes.{shares_reads, shares_mirror}
