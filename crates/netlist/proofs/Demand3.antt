-- Demand 3 holds: a list tells the net numbers, and the net numbers tell the nets. And so of the calls, which write the whole list.
use mathlib.Core.Path.{◌≡◌, refl, sym, ap, subst, ◌∙◌}
use mathlib.Core.List.{List, map}
use Prim.Native.Nat.{ℕ, ◌≤◌}
use native.Mathlib.Omega.{arith}
use lib.ListN.{length, drop}
use lib.Seq.{take_at}
use borrow.Author.Tests.{le-leb}
use Rattle.sheet.specs.declared.Drawing.{Drawing}
use Rattle.sheet.specs.Parts.{pads_of}
use Rattle.sheet.specs.Drawings.{Sized, lists_of}
use Rattle.sheet.specs.Rules.{Lawful}
use Rattle.rules.proofs.Check.{lawful_none}
use Rattle.text.specs.Answers.{answer_of, buffer_of}
use Rattle.nets.specs.Nets.{Numbered}
use Rattle.nets.proofs.Same.{same_row}
use Rattle.net_numbers.specs.Netted.{net_on, net_numbers}
use Rattle.net_numbers.proofs.Numbered.{numbered}
use Rattle.listing.specs.Listing.{entry, list_of}
use Rattle.netlist.specs.Answers.{netlist_of, netlist_in}
use Rattle.netlist.specs.Demand3.{Demand3, written, Demand3OfCalls}
use Rattle.rules.proofs.Found.{found_passes}
use Rattle.listing.proofs.Lengths.{list_room}
use Rattle.netlist.proofs.Sheets.{lists_told}

pub demand_3 : Demand3
demand_3 d e ld le q =
    let s = lists_of d in
    let t = lists_of e in
    let told = lists_told s t (λ c m. (ld.rule1.components_fit c m).kind) (ap (map entry) q) in
    let row = same_row (numbered s) (subst (λ cs. Numbered (net_on t) (pads_of cs) (net_numbers t)) (sym q) (numbered t)) in
    (λ l. row.0 (told.0 l), λ n. told.1 (row.1 n))

written_is : {d : Drawing} → Lawful d → Sized d → (buffer : List ℕ) → 7936 ≤ length buffer → written d buffer ≡ list_of (lists_of d)
unfolding netlist_of netlist_in answer_of buffer_of
written_is {d} l z buffer h =
    let list : List ℕ = list_of (lists_of d) in
    rw (found_passes d (lawful_none l) refl, le-leb (length list) (length buffer) (omega (arith, list_room l z))) (take_at list (drop (length list) buffer) (length list) refl)

pub demand_3_of_calls : Demand3OfCalls
demand_3_of_calls d e ld le zd ze q a b ha hb =
    let first = written_is ld zd a ha in
    let second = written_is le ze b hb in
    let both = demand_3 d e ld le q in
    (λ w. both.0 (sym first ∙ w ∙ second), λ n. first ∙ both.1 n ∙ sym second)
