-- The laws of the wire edit: it keeps the rules, made again or over wires that are there it changes nothing, and the run may be cut alone.
use mathlib.Core.List.{List}
use mathlib.Core.Path.{◌≡◌, refl, sym, ap, ◌∙◌}
use mathlib.Core.Logic.{⊎_elim, inl}
use native.Mathlib.Omega.{arith}
use Rattle.lists.specs.Lists.{◌∈◌}
use Rattle.lists.proofs.Tests.{decide, choose, eqb_reads}
use Rattle.symbol.specs.declared.Point.{Point}
use Rattle.sheet.specs.declared.Wire.{Wire}
use Rattle.sheet.specs.Geometry.{tip}
use Rattle.sheet.specs.Run.{lay_wire, draw_wire}
use Rattle.sheet.specs.Wiring.{Fits, Wired}
use Rattle.sheet.specs.LiesOn.{LiesOn}
use Rattle.sheet.proofs.Geometry.{ends_at_lem, in_marks}
use Rattle.sheet.proofs.Wiring.{Drawable}
use Rattle.sheet.proofs.Rest.{Draws}
use Rattle.sheet.proofs.LaidWired.{result_wired}
use Rattle.sheet.proofs.LaidAgain.{result_again}
use Rattle.sheet.proofs.LaidPieces.{add_pieces, result_pieces}
use Rattle.sheet.proofs.Traced.{result_traced}

module _ (n : Wire) (ws : List Wire) (ps : List Point) (fit : Fits n) (law : Wired ws ps) where
  abbrev edit : Draws
  edit = record { new = n; wires = ws; pads = ps; fit = fit; law = law }

  pub laid_wired : Wired (lay_wire n ws ps) ps
  laid_wired = result_wired edit

  pub laid_again : lay_wire n (lay_wire n ws ps) ps ≡ lay_wire n ws ps
  laid_again = result_again edit

  laid_traced : LiesOn ws n → lay_wire n ws ps ≡ ws
  laid_traced = result_traced edit

  pub pieces_laid : add_pieces n ws ps ≡ lay_wire n ws ps
  pieces_laid = result_pieces edit

-- ---- with the zero-length wire

-- a wire that is not of zero length meets the limits
long : {n : Wire} → Drawable n → (n.start ≡ n.end → ⊥) → Fits n
long d f = record { line = d.line; long = omega (arith, d.order); end = d.end }

pub drawn_idle : (n : Wire) → n.start ≡ n.end → (ws : List Wire) (ps : List Point) → draw_wire n ws ps ≡ ws
unfolding draw_wire
drawn_idle n e ws ps = choose (eqb_reads n.start n.end) (λ x. x ≡ ws) (λ k. refl) (λ f. absurd (f e))

pub drawn_added : (n : Wire) → (n.start ≡ n.end → ⊥) → (ws : List Wire) (ps : List Point) → draw_wire n ws ps ≡ lay_wire n ws ps
unfolding draw_wire
drawn_added n f ws ps = choose (eqb_reads n.start n.end) (λ x. x ≡ lay_wire n ws ps) (λ e. absurd (f e)) (λ k. refl)

module _ (n : Wire) (ws : List Wire) (ps : List Point) (fit : Drawable n) (law : Wired ws ps) where
  pub drawn_wired : Wired (draw_wire n ws ps) ps
  unfolding draw_wire
  drawn_wired = choose (eqb_reads n.start n.end) (λ vs. Wired vs ps) (λ e. law) (λ f. laid_wired n ws ps (long fit f) law)

  pub drawn_again : draw_wire n (draw_wire n ws ps) ps ≡ draw_wire n ws ps
  drawn_again = ⊎_elim
      (λ (e : n.start ≡ n.end). drawn_idle n e (draw_wire n ws ps) ps)
      (λ (f : n.start ≡ n.end → ⊥). ap (λ vs. draw_wire n vs ps) (drawn_added n f ws ps) ∙ drawn_added n f (lay_wire n ws ps) ps ∙ laid_again n ws ps (long fit f) law ∙ sym (drawn_added n f ws ps))
      (decide (eqb_reads n.start n.end))

  pub drawn_traced : LiesOn ws n → draw_wire n ws ps ≡ ws
  drawn_traced t = ⊎_elim
      (λ (e : n.start ≡ n.end). drawn_idle n e ws ps)
      (λ (f : n.start ≡ n.end → ⊥). drawn_added n f ws ps ∙ laid_traced n ws ps (long fit f) law t)
      (decide (eqb_reads n.start n.end))

-- a wire that is there lies on itself, and its ends inside no wire
pub row_lies : {ws : List Wire} {ps : List Point} → Wired ws ps → {w : Wire} → w ∈ ws → LiesOn ws w
row_lies l {w} m = record {
  covered = λ a x y. (w, m, record { dir = refl; line = refl; from = x; to = y });
  off_crossings = λ s v n d. l.clean.clear (tip s w) (in_marks (inl (w, m, (s, ends_at_lem s w)))) v n;
}
