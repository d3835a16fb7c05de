-- Demand 3 (document 01, "Nets and the list"). Take two lawful drawings with the same components. Their wiring lists are equal, byte for
-- byte, exactly when the same pairs of pads are on one net and the same pads are fed. `Demand3` says it of the lists, `Demand3OfCalls` of
-- what callers of `build_netlist` get.
use Rattle.std.specs.Prelude.{◌↔◌, ◌≡◌, List, ℕ, ◌≤◌, length, take}
use Rattle.sheet.specs.declared.Drawing.{Drawing}
use Rattle.sheet.specs.Parts.{pads_of}
use Rattle.sheet.specs.Drawings.{Sized, lists_of}
use Rattle.sheet.specs.Rules.{Lawful}
use Rattle.nets.specs.Nets.{SameOn}
use Rattle.net_numbers.specs.Netted.{net_on}
use Rattle.listing.specs.Listing.{list_of}
use Rattle.netlist.specs.Answers.{netlist_of, netlist_in}

-- the same pairs of pads are on one net, and the same pads are fed
abbrev pub SameNets : Drawing → Drawing → Type 0
SameNets d e = SameOn (pads_of (lists_of d).parts) (net_on (lists_of d)) (net_on (lists_of e))

-- the two lists are equal, and the same nets and fed pads, exactly together
abbrev pub Demand3 : Type 0
Demand3 =
    (d e : Drawing) → Lawful d → Lawful e → (lists_of d).parts ≡ (lists_of e).parts
    → (list_of (lists_of d) ≡ list_of (lists_of e)) ↔ SameNets d e

-- the part of a lent buffer that the call wrote: "The written part of the lent buffer is told by its length"
abbrev pub written : Drawing → List ℕ → List ℕ
written d buffer = take (netlist_of d (length buffer)).length (netlist_in d buffer)

-- the same of the written parts of two lent buffers, whatever stood there; "7,936 bytes always suffice". (`Sized`: arrays have their
-- declared lengths, as in every drawing that a program holds.)
abbrev pub Demand3OfCalls : Type 0
Demand3OfCalls =
    (d e : Drawing) → Lawful d → Lawful e → Sized d → Sized e → (lists_of d).parts ≡ (lists_of e).parts
    → (a b : List ℕ) → 7936 ≤ length a → 7936 ≤ length b
    → (written d a ≡ written e b) ↔ SameNets d e
