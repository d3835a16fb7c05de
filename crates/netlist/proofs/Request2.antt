-- P2 holds: the count that is told is that of the loose pads.
use mathlib.Core.Path.{refl}
use Rattle.sheet.specs.Drawings.{lists_of}
use Rattle.rules.proofs.Check.{lawful_none}
use Rattle.loose_pads.proofs.HowMany.{how_many_loose}
use Rattle.netlist.specs.Answers.{loose_answer}
use Rattle.netlist.specs.Request2.{Request2}
use Rattle.rules.proofs.Found.{found_passes}

pub request_2 : Request2
unfolding loose_answer
request_2 d l = rw (found_passes d (lawful_none l) refl) (refl, how_many_loose (lists_of d))
