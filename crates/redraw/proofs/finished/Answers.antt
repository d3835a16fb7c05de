-- The word of the edit decides.
use Rattle.std.proofs.Common.{arith, refl, subst, ◌∙◌, ◌≡◌}
use Rattle.std.specs.Prelude.{Result, IfOk}
use Rattle.joints.specs.Tables.{Sound}
use Rattle.refusal.proofs.Numbers.{refuses}
use Rattle.refusal.specs.declared.Refusal.{Refusal}
use Rattle.edits.specs.declared.Made.{Made}
use Rattle.edits.specs.Making.{told, made}
use Rattle.redraw.specs.Calls.{refused}
use Rattle.redraw.proofs.Finishing.{sound_counted, finished_full, finished_room}
use Rattle.redraw.proofs.finished.Goals as goal

pub returns-in-Err : goal.returns-in-Err
returns-in-Err c = λ o q.
    let k = subst (λ (x : Result Made Refusal). told x ≡ made o) c.in-Err.is q in
    c.refused.ensures ∙ (λ i. refused (c.from.ensures i) c.args.d c.args.t) ∙ finished_full _ _ o k (λ z. omega (arith, z, refuses c.in-Err.r))

pub drawn-drawing-requires : goal.drawn-drawing-requires
drawn-drawing-requires c = subst (λ (x : Result Made Refusal). IfOk x (λ e. Sound e.wires e.parts)) c.in-Ok.is c.requires

pub tally-sums-requires : goal.tally-sums-requires
tally-sums-requires c = let s = subst (λ (x : Result Made Refusal). IfOk x (λ e. Sound e.wires e.parts)) c.in-Ok.is c.requires in sound_counted s c.drawn-drawing.ensures

pub returns : goal.returns
returns c = λ o q. let k = subst (λ (x : Result Made Refusal). told x ≡ made o) c.in-Ok.is q in finished_room _ _ o k refl c.drawn-drawing.ensures c.tally-sums.ensures
