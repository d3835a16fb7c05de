-- P1's samenesses, from those of symbols, edits, lists and the check.
use mathlib.Core.Bool.{cond}
use mathlib.Core.Path.{◌≡◌, ap, ◌∙◌}
use lib.Dec.{eqb}
use Rattle.sheet.specs.declared.Drawing.{Drawing}
use Rattle.sheet.specs.declared.Tally.{Tally}
use Rattle.sheet.specs.Drawings.{lists_of}
use Rattle.rules.specs.declared.Checked.{Checked}
use Rattle.rules.specs.Check.{lawful}
use Rattle.redraw.specs.declared.Edited.{Edited}
use Rattle.schematic.specs.Calls.{checked}
use Rattle.loose_pads.specs.Counting.{loose_of}
use Rattle.listing.specs.Listing.{list_of}
use Rattle.text.specs.Answers.{told_length, answer_of, buffer_of}
use Rattle.netlist.specs.Answers.{loose_count, netlist_of, netlist_in, loose_answer}
use Rattle.four.specs.Plans as Plans
use Rattle.four.specs.Listing as FourListing
use Rattle.four.specs.Check as FourCheck
use Rattle.four.specs.Calls as Four
use Rattle.four.specs.Request1.{four_drawing, four_edited, SameCalls, SameLists, Request1}
use Rattle.four.proofs.Sheets.{same_joints, same_tally}
use Rattle.four.proofs.Lists.{same_list, same_loose}
use Rattle.four.proofs.Drawings.{lists_same}
use Rattle.four.proofs.Edits.{unless, same_edits}
use Rattle.four.proofs.Check.{same_check}
use Rattle.four.proofs.Rules.{same_lawful}
use Rattle.four.proofs.Symbols.{same_symbols}
use Rattle.four.proofs.Back.{one_to_one}

-- 9 is told of the same drawings
module _ (d : Drawing) where
  nine : FourCheck.lawful (four_drawing d) ≡ lawful d
  nine = ap (λ (c : Checked). eqb c.rule 0) (same_check d)

  checked_same : (t : Tally) (f : Edited) {e : Four.Edited} → e ≡ four_edited f → Four.checked (four_drawing d) t e ≡ four_edited (checked d t f)
  unfolding Four.checked checked
  checked_same t f {e} q = (λ i. Four.refused_unless (nine i) 9 (four_drawing d) t e) ∙ unless d t (lawful d) 9 f q

  same_lists : SameLists d
  unfolding Four.netlist_of netlist_of Four.netlist_in netlist_in Four.loose_answer loose_answer
  same_lists =
      let s = lists_of d in
      let list : FourListing.list_of (Plans.lists_of (four_drawing d)) ≡ list_of s = ap FourListing.list_of (lists_same d) ∙ same_list s in
      let loose : FourListing.loose_of (Plans.lists_of (four_drawing d)) ≡ loose_of s = ap FourListing.loose_of (lists_same d) ∙ same_loose s in
      record {
        list = list;
        loose = loose;
        joints = ap Plans.joints (lists_same d) ∙ same_joints s;
        tally = ap Plans.tally_of (lists_same d) ∙ same_tally s;
        told = λ room. λ i. cond (nine i) (answer_of (list i) room) (told_length 9 0);
        written = λ old. λ i. cond (nine i) (buffer_of (list i) old) old;
        loose_told = λ i. cond (nine i) (loose_count 0 (loose i)) (loose_count 9 0);
      }

same_calls : SameCalls
same_calls = record {
  wire = λ d v l s e t. checked_same d t _ (same_edits.wire d v l s e t);
  place = λ d k n x y b t. checked_same d t _ (same_edits.place d k n x y b t);
  delete = λ d x y s t. checked_same d t _ (same_edits.delete d x y s t);
  turn = λ d x y s t. checked_same d t _ (same_edits.turn d x y s t);
  mirror = λ d x y s t. checked_same d t _ (same_edits.mirror d x y s t);
}

pub request_1 : Request1
request_1 = record {
  symbols = same_symbols;
  edits = same_edits;
  calls = same_calls;
  lists = same_lists;
  law = λ d. record { lawful = same_lawful d; check = same_check d };
  one_to_one = one_to_one;
}
