-- The wire edit done twice is done once: the new wire lies on the pieces of its run.
use mathlib.Core.Path.{◌≡◌, sym, ◌∙◌}
use mathlib.Core.Logic.{⊎_elim}
use native.Mathlib.Omega.{arith}
use Rattle.lists.specs.Lists.{◌∈◌}
use Rattle.lists.proofs.Tests.{not_turned}
use Rattle.sheet.specs.declared.Wire.{Wire}
use Rattle.sheet.specs.Run.{lay_wire}
use Rattle.sheet.specs.LiesOn.{LiesOn}
use Rattle.sheet.proofs.Geometry.{ends_at_lem}
use Rattle.sheet.proofs.Pieces.{within_inside, Within, Piece}
use Rattle.sheet.proofs.Rest.{run_of, rest_of, reach, rest_clean, Draws}
use Rattle.sheet.proofs.Laid.{laid_of, cuts_of, laid_in, run_span}
use Rattle.sheet.proofs.LaidWired.{result_wired}
use Rattle.sheet.proofs.Traced.{result_traced}

module _ (E : Draws) where
  D : Within (run_of E) E.new
  D = (reach E).drawn

  -- its ends split the wires across it, and the run has its direction
  lies : LiesOn (laid_of E) E.new
  lies = record {
    covered = λ a x y.
        let u = run_span E a (omega (arith, D.from)) (omega (arith, D.to)) in
        (u.0, u.1, record { dir = u.3.within.dir ∙ sym D.dir; line = u.3.within.line ∙ sym D.line; from = u.2.0; to = u.2.1 });
    off_crossings = λ s w m d i. ⊎_elim
        (λ (p : Piece (cuts_of E) (run_of E) w). not_turned E.new.vertical (D.dir ∙ sym p.within.dir ∙ d))
        (λ (t : (v : Wire) × v ∈ rest_of E × Piece (cuts_of E) v w). rest_clean E t.1 (s, ends_at_lem s E.new) (within_inside t.2.within i))
        (laid_in E m);
  }

  pub result_again : lay_wire E.new (laid_of E) E.pads ≡ laid_of E
  result_again = result_traced (record { new = E.new; wires = laid_of E; pads = E.pads; fit = E.fit; law = result_wired E }) lies
