-- Wires that come each after the one before, and share no length with it, are in row order.
use Prim.Native.Nat.{◌≤◌, ◌<◌}
use mathlib.Core.Bool.{true, false}
use mathlib.Core.List.Memᴰ.{head as ∈-head}
use mathlib.Core.List.Memᴰ.{tail as ∈-tail}
use mathlib.Core.List.{List}
use mathlib.Core.Path.{◌≡◌, refl}
use mathlib.Core.Logic.{◌⊎◌, inl, inr}
use lib.Dec.{T}
use Rattle.lists.specs.Lists.{Rows, links}
use Rattle.lists.proofs.Adjacent.{Adjacent, empty, single, link}
use Rattle.lists.proofs.Tests.{Reads, holds, reads_as, and_reads, or_reads, eqb_reads, leb_reads, ltb_reads, beq_reads, true_reads, false_reads}
use Rattle.lists.proofs.Lists.{links_reads}
use Rattle.lists.proofs.Order.{rows_all, chain_rows}
use Rattle.sheet.specs.declared.Wire.{Wire}
use Rattle.sheet.specs.Geometry.{Before, turned, next_line, same_line}
use Rattle.sheet.specs.Wiring.{Fits, AllFit}
use Rattle.sheet.proofs.Before.{before_trans}
use Rattle.lawful.specs.Looks.{before}

before_reads : (a b : Wire) → Reads (Before a b) (before a b)
unfolding before
before_reads a b = reads_as (into, out) (or_reads
    (and_reads (false_reads a.vertical) (true_reads b.vertical))
    (and_reads (beq_reads a.vertical b.vertical) (or_reads (ltb_reads a.line b.line) (and_reads (eqb_reads a.line b.line) (leb_reads a.end b.start)))))
  where
    into : ((a.vertical ≡ false) × (b.vertical ≡ true)) ⊎ ((a.vertical ≡ b.vertical) × ((a.line < b.line) ⊎ ((a.line ≡ b.line) × (a.end ≤ b.start)))) → Before a b
    into (inl t) = turned t.0 t.1
    into (inr (d, inl l)) = next_line d l
    into (inr (d, inr t)) = same_line d t.0 t.1

    out : Before a b → ((a.vertical ≡ false) × (b.vertical ≡ true)) ⊎ ((a.vertical ≡ b.vertical) × ((a.line < b.line) ⊎ ((a.line ≡ b.line) × (a.end ≤ b.start))))
    out (turned e f) = inl (e, f)
    out (next_line d l) = inr (d, inl l)
    out (same_line d l s) = inr (d, inr (l, s))

chain_fits : {ws : List Wire} → AllFit ws → Adjacent Before ws → Adjacent (λ a b. Fits b × Before a b) ws
chain_fits f empty = empty
chain_fits f single = single
chain_fits f (link {x} {y} p c) = link (f y (∈-tail (∈-head refl)), p) (chain_fits (λ w m. f w (∈-tail m)) c)

pub ordered : (ws : List Wire) → AllFit ws → T (links before ws) → Rows Before ws
ordered ws f t = rows_all (chain_rows (λ a b c p q. (q.0, before_trans p.0 p.1 q.1)) (chain_fits f (holds (links_reads before_reads ws) t))) (λ a b m n p. p.1)
