-- `put_checked` meets its contract: six runs of bytes, one behind the other.
use Prim.Native.Nat.{ℕ, ◌≤◌, ◌<◌}
use native.Mathlib.Omega.{arith}
use lib.ListN.{length}
use Rattle.text.specs.Text.{decimal_of}
use Rattle.text.proofs.Puts.{put_then}
use Rattle.panel_check.specs.Answers.{verdict_line}
use Rattle.text.proofs.Decimals.{length_number}
use Rattle.panel_check.proofs.answers.put_checked.Goals as goal

-- the three numbers in decimal have at most ten digits
lengths : (rule first second : ℕ) → rule < 256 → first < 65536 → second < 65536 → (length (decimal_of rule) ≤ 10) × ((length (decimal_of first) ≤ 10) × (length (decimal_of second) ≤ 10))
lengths rule first second p q r = (length_number rule (omega arith), (length_number first (omega arith), length_number second (omega arith)))

pub put_decimal-p-requires : goal.put_decimal-p-requires
put_decimal-p-requires c = let l = lengths c.args.rule c.args.first c.args.second (omega (arith, c.ranges.rule)) (omega (arith, c.ranges.first)) (omega (arith, c.ranges.second)) in omega (arith, l.0)

pub put_byte-p-requires : goal.put_byte-p-requires
put_byte-p-requires c = let l = lengths c.args.rule c.args.first c.args.second (omega (arith, c.ranges.rule)) (omega (arith, c.ranges.first)) (omega (arith, c.ranges.second)) in omega (arith, c.put_decimal-p.ensures.behind, l.0)

pub put_decimal-p-requires-2 : goal.put_decimal-p-requires-2
put_decimal-p-requires-2 c = let l = lengths c.args.rule c.args.first c.args.second (omega (arith, c.ranges.rule)) (omega (arith, c.ranges.first)) (omega (arith, c.ranges.second)) in omega (arith, c.put_decimal-p.ensures.behind, c.put_byte-p.ensures.behind, l.0, l.1.0)

pub put_byte-p-requires-2 : goal.put_byte-p-requires-2
put_byte-p-requires-2 c = let l = lengths c.args.rule c.args.first c.args.second (omega (arith, c.ranges.rule)) (omega (arith, c.ranges.first)) (omega (arith, c.ranges.second)) in omega (arith, c.put_decimal-p.ensures.behind, c.put_byte-p.ensures.behind, c.put_decimal-p-2.ensures.behind, l.0, l.1.0)

pub put_decimal-p-requires-3 : goal.put_decimal-p-requires-3
put_decimal-p-requires-3 c = let l = lengths c.args.rule c.args.first c.args.second (omega (arith, c.ranges.rule)) (omega (arith, c.ranges.first)) (omega (arith, c.ranges.second)) in omega (arith, c.put_decimal-p.ensures.behind, c.put_byte-p.ensures.behind, c.put_decimal-p-2.ensures.behind, c.put_byte-p-2.ensures.behind, l.0, l.1.0, l.1.1)

pub put_byte-requires : goal.put_byte-requires
put_byte-requires c = let l = lengths c.args.rule c.args.first c.args.second (omega (arith, c.ranges.rule)) (omega (arith, c.ranges.first)) (omega (arith, c.ranges.second)) in omega (arith, c.put_decimal-p.ensures.behind, c.put_byte-p.ensures.behind, c.put_decimal-p-2.ensures.behind, c.put_byte-p-2.ensures.behind, c.put_decimal-p-3.ensures.behind, l.0, l.1.0, l.1.1)

pub returns : goal.returns
unfolding verdict_line
returns c = (
  put_then c.put_decimal-p.ensures (put_then c.put_byte-p.ensures (put_then c.put_decimal-p-2.ensures (put_then c.put_byte-p-2.ensures (put_then c.put_decimal-p-3.ensures c.put_byte.ensures)))),
  let l = lengths c.args.rule c.args.first c.args.second (omega (arith, c.ranges.rule)) (omega (arith, c.ranges.first)) (omega (arith, c.ranges.second)) in omega (arith, c.put_decimal-p.ensures.behind, c.put_byte-p.ensures.behind, c.put_decimal-p-2.ensures.behind, c.put_byte-p-2.ensures.behind, c.put_decimal-p-3.ensures.behind, c.put_byte.ensures.behind, l.0, l.1.0, l.1.1),
)
