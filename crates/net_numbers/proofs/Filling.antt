-- Wires and pads by the numbers of their joints, as the tables of the nets hold them.
use Prim.Native.Nat.{ℕ, ◌≤◌}
use mathlib.Core.List.Memᴰ.{of_map as ∈-of-map}
use mathlib.Core.List.{List, map, map-map, map-id}
use mathlib.Core.Path.{◌≡◌, sym, subst, ◌∙◌}
use lib.ListN.{take}
use Rattle.lists.specs.Lists.{◌∈◌}
use Rattle.symbol.specs.declared.Point.{Point}
use Rattle.sheet.specs.declared.Wire.{Wire}
use Rattle.sheet.specs.declared.Joint.{Joint}
use Rattle.sheet.specs.Geometry.{tip, low, high, ends}
use Rattle.nets.specs.Joined.{Links}
use Rattle.nets.specs.Joined.{Pads}
use Rattle.nets.specs.Tables as Tables
use Rattle.nets.specs.Tables.{JointNumber, link_rows, pad_rows}
use Rattle.net_numbers.specs.Netted.{ends_of, number_of_joint}
use Rattle.net_numbers.specs.Found.{Jointed, LinksIn, PadsIn}
use Rattle.net_numbers.proofs.Numbered.{low_end, high_end}
use Rattle.net_numbers.proofs.Keys.{number_low}

-- the numbers of a wire's two ends
abbrev pub numbers_of : List Joint → Wire → ℕ × ℕ
numbers_of js w = (number_of_joint js (tip low w), number_of_joint js (tip high w))

pub links_in : {js : List Joint} {ws : List Wire} {t : Links} → Jointed (ends ws) js → t.count ≤ 512 → map Tables.link_ends (take t.count t.rows) ≡ map (numbers_of js) ws → LinksIn js ws t
unfolding link_rows
links_in {js} {ws} {t} j room e = record {
  wired = record {
    room = room;
    ends = λ l m. let r = ∈-of-map (numbers_of js) ws (subst (λ ls. l ∈ ls) e m) in
        subst (λ k. JointNumber k.0 × JointNumber k.1) r.2 (number_low (tip low r.0) j (low_end r.1), number_low (tip high r.0) j (high_end r.1));
  };
  links_are = e ∙ sym (map-map (λ (l : Point × Point). (number_of_joint js l.0, number_of_joint js l.1)) ends_of ws);
}

pub pads_in : {js : List Joint} {ps : List Point} {t : Pads} → Jointed ps js → t.count ≤ 384 → map (λ n. n) (take t.count t.rows) ≡ map (number_of_joint js) ps → PadsIn js ps t
unfolding pad_rows
pads_in {js} {ps} {t} j room e =
    let are : take t.count t.rows ≡ map (number_of_joint js) ps = sym (map-id (take t.count t.rows)) ∙ e in
    record {
      padded = record {
        room = room;
        joints = λ n m. let r = ∈-of-map (number_of_joint js) ps (subst (λ ls. n ∈ ls) are m) in subst JointNumber r.2 (number_low r.0 j r.1);
      };
      pads_are = are;
    }
