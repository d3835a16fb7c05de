-- The wire edit on wires and pads (document 01, "Edits", "Wire.").
use Rattle.std.specs.Prelude.{min, max, cond, not, List, [], ◌∷◌, eqb}
use Rattle.sheet.specs.declared.Wire.{Wire}
use Rattle.symbol.specs.declared.Point.{Point}
use Rattle.lists.specs.Lists.{insert}
use Rattle.std.specs.List.{filter}
use Rattle.sheet.specs.Geometry.{tips, marks, on, meets, first}
use Rattle.sheet.specs.Split.{split_all}

-- "Remove each wire of the same direction that meets the new one, an end touch included": what is left
unfoldable pub kept : Wire → List Wire → List Wire
kept n ws = filter (λ w. not (meets n w)) ws

-- r, reaching to the outermost ends of w too
abbrev pub stretch : Wire → Wire → Wire
stretch r w = record { vertical = r.vertical; line = r.line; start = min r.start w.start; end = max r.end w.end }

-- "the new run reaches to their outermost ends", those of the wires removed
unfoldable pub run : Wire → List Wire → Wire
run n [] = n
run n (w ∷ ws) = cond (meets n w) (stretch (run n ws) w) (run n ws)

-- "At the two ends as drawn, split each crossing wire that has that end strictly inside."
unfoldable pub rest : Wire → List Wire → List Wire
rest n ws = split_all (tips n) (kept n ws)

-- "each joint still standing from one end as drawn to the other, both included"
unfoldable pub standing : Wire → List Wire → List Point → List Point
standing n ws ps = filter (λ p. on p n) (marks ws ps)

-- "Cut the run at each joint still standing ..": the run r goes in among the rest ws, and all are split at those joints. Cutting the run
-- alone gives the same on lawful drawings (proofs/Run: pieces-laid). "A crossing elsewhere stays unjoined."
unfoldable pub lay : Wire → Wire → List Wire → List Point → List Wire
lay n r ws ps = split_all (standing n ws ps) (insert first r ws)

-- "Wire.", the whole: the new wire n among the wires ws and the pads ps
unfoldable pub lay_wire : Wire → List Wire → List Point → List Wire
lay_wire n ws ps = lay n (run n ws) (rest n ws) ps

-- "A zero-length wire inside the range gives 0 and the drawing as it was"
unfoldable pub draw_wire : Wire → List Wire → List Point → List Wire
draw_wire n ws ps = cond (eqb n.start n.end) ws (lay_wire n ws ps)
