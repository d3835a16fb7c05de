-- What an answer is read as leaves one answer: so an equation about that determines what is answered.
use mathlib.Core.Path.{◌≡◌, refl, sym, ap, ◌∙◌}
use Rattle.std.specs.Prelude.{Option, Some, None}
use Rattle.check_script.specs.Saying.{Said, Wire, Component, Joint, WireCount, ComponentCount, JointCount, End, Unreadable, said_as}
use Rattle.check_script.specs.declared.Said.{Said as Told}
use Rattle.check_script.specs.declared.Said.TheVariants as code

-- the answer that says what a line says
told : Said → Option Told
told (Wire behind wire) = Some (code.Wire behind wire)
told (Component behind kind orientation x y label) = Some (code.Component behind kind orientation x y label)
told (Joint behind joint) = Some (code.Joint behind joint)
told (WireCount n) = Some (code.WireCount n)
told (ComponentCount n) = Some (code.ComponentCount n)
told (JointCount n) = Some (code.JointCount n)
told End = Some code.End
told Unreadable = None

back : (r : Option Told) → told (said_as r) ≡ r
unfolding told
back (Some (code.Wire behind wire)) = refl
back (Some (code.Component behind kind orientation x y label)) = refl
back (Some (code.Joint behind joint)) = refl
back (Some (code.WireCount n)) = refl
back (Some (code.ComponentCount n)) = refl
back (Some (code.JointCount n)) = refl
back (Some code.End) = refl
back None = refl

pub one_said : (r s : Option Told) → said_as r ≡ said_as s → r ≡ s
one_said r s e = sym (back r) ∙ ap told e ∙ back s
