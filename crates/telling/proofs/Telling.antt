-- What came of a line is told in a lent buffer of any length: the list, and behind it the answer line if it fits.
use mathlib.Core.Path.{◌≡◌, refl, sym, ap, ap₂, subst, ◌∙◌}
use mathlib.Core.Bool.{Bool, true, false, cond}
use mathlib.Core.Logic.{⊎_elim}
use mathlib.Core.List.{List, [], ◌++◌, append-nil}
use Prim.Native.Nat.{ℕ, ◌+◌, ◌-◌, ◌≤◌, ◌<◌}
use native.Mathlib.Omega.{arith}
use lib.Dec.{T, leb, leb→le}
use lib.ListN.{length, take, drop, length-append, length-drop}
use lib.Seq.{sets, sets-eq, length-take-le, take_at, drop_at, drop-drop}
use borrow.Author.Tests.{le-leb, lt-leb, eq-eqb, ne_eqb}
use Rattle.lists.proofs.Tests.{decide, choose, leb_reads}
use Rattle.sheet.specs.Drawings.{lists_of}
use Rattle.redraw.specs.declared.Edited.{Edited}
use Rattle.redraw.specs.Calls.{refused}
use Rattle.text.specs.declared.Written.{Written}
use Rattle.loose_pads.specs.Counting.{loose_of}
use Rattle.listing.specs.Listing.{list_of}
use Rattle.text.specs.Answers.{answer_of, buffer_of}
use Rattle.text.specs.Text.{Put}
use Rattle.text.proofs.Puts.{put_whole, put_none, put_length}
use Rattle.telling.specs.declared.Stepped.{Stepped}
use Rattle.telling.specs.Told.{After, printed, loose_line, listedly, in_room, Answers}
use Rattle.telling.specs.Fitting.{told_with, Fitted, Replied, Tells}

-- what is told of a line under one name is told of it under another
pub tells_as : {a b : After} {old new : List ℕ} {r : Stepped} → a ≡ b → Tells a old new r → Tells b old new r
tells_as {old = old} {new} {r} = subst (λ a. Tells a old new r)

-- the bytes of a line that stands in front of a buffer of its own
line_is : {old bs new : List ℕ} {n : ℕ} → Put old 0 bs new n → n ≤ length old → take n new ≡ bs
line_is {old} {bs} {new} {n} p h = ap (take n) (put_whole p h) ∙ take_at bs (drop n old) n (omega (arith, p.behind))

-- it is as long as was told, and short
pub line_short : {own bs line : List ℕ} {k : ℕ} → Put own 0 bs line k → k ≤ 40 → length own ≡ 40 → (k ≡ length (take k line)) × (length (take k line) ≤ 40)
line_short {own} {bs} {line} {k} p few forty =
    let is : length (take k line) ≡ k = length-take-le k line (omega (arith, put_length p, forty)) in
    (sym is, omega arith)

-- ---- a line put if it fits

module _ {old l new : List ℕ} {at n : ℕ} where
  pub fits : at ≤ length old → length l ≤ length old - at → Put old at l new n → Fitted old at l new n
  fits inside h p =
      let yes : leb (at + length l) (length old) ≡ true = le-leb (at + length l) (length old) (omega arith) in
      record { behind = rw yes p.behind; bytes = rw yes p.bytes }

pub fits_not : {old l : List ℕ} {at : ℕ} → at ≤ length old → length old - at < length l → Fitted old at l old at
fits_not {old} {l} {at} inside h =
    let no : leb (at + length l) (length old) ≡ false = lt-leb (at + length l) (length old) (omega arith) in
    record { behind = rw no refl; bytes = rw no refl }

-- ---- what came of a line

-- a buffer that holds all is told all
pub all_told : (a : After) (n : ℕ) → length a.list ≤ n → length (printed a) ≤ n → in_room n a ≡ a
unfolding in_room
all_told a n p q = rw (le-leb (length a.list) n p) (rw (le-leb (length (printed a)) n q) refl)

-- a list in front of a buffer, and an answer line behind it or left out
module _ (e : Edited) (list l old : List ℕ) {mid new : List ℕ} {n : ℕ} (m : mid ≡ list ++ drop (length list) old) (inside : length list ≤ length old) (f : Fitted mid (length list) l new n) where
  long : length mid ≡ length old
  long = omega (arith, ap length m, length-append list (drop (length list) old), length-drop (length list) old)

  -- behind the list the buffer is as it was
  rest : (k : ℕ) → drop (length list + k) mid ≡ drop (length list + k) old
  rest k = sym (drop-drop k (length list) mid) ∙ ap (drop k) (ap (drop (length list)) m ∙ drop_at list (drop (length list) old) (length list) refl) ∙ drop-drop k (length list) old

  front : take (length list) mid ≡ list
  front = ap (take (length list)) m ∙ take_at list (drop (length list) old) (length list) refl

  answers_by : (b : Bool) → leb (length list + length l) (length mid) ≡ b → Answers (record { outcome = e; list = list; answer = cond b l [] }) old new (told_with e n)
  answers_by true q =
      let g = f.behind in
      let h = f.bytes in
      let is-n : n ≡ length list + length l = rw q at g in
      let is-new : new ≡ sets mid (length list) l = rw q at h in
      record {
        outcome = refl;
        length = omega (arith, is-n, length-append list l);
        bytes = is-new ∙ sets-eq l mid (length list) (leb→le (length list + length l) (length mid) (subst T (sym q) tt))
            ∙ ap₂ (λ x y. x ++ l ++ y) front (rest (length l) ∙ ap (λ i. drop i old) (sym is-n));
      }
  answers_by false q =
      let g = f.behind in
      let h = f.bytes in
      let is-n : n ≡ length list = rw q at g in
      let is-new : new ≡ mid = rw q at h in
      record {
        outcome = refl;
        length = is-n ∙ ap length (sym (append-nil list));
        bytes = is-new ∙ m ∙ ap₂ (λ x i. x ++ drop i old) (sym (append-nil list)) (sym is-n);
      }

  pub told_behind : length list + length l ≤ 8192 → Tells (record { outcome = e; list = list; answer = l }) old new (told_with e n)
  unfolding in_room
  told_behind few =
      let both : leb (length list + length l) (length mid) ≡ leb (length (list ++ l)) (length old) = ap₂ leb (sym (length-append list l)) long in
      record {
        answers = rw (le-leb (length list) (length old) inside) (answers_by (leb (length (list ++ l)) (length old)) both);
        whole = λ h. all_told (record { outcome = e; list = list; answer = l }) (length old) inside (omega (arith, length-append list l));
      }

-- whatever the room, the drawing is the one that came of the line
pub told_drawing : {a : After} {old new : List ℕ} {r : Stepped} → Tells a old new r → r.edited.drawing ≡ a.outcome.drawing
unfolding in_room
told_drawing {a} {old} w = ap (λ (e : Edited). e.drawing) w.answers.outcome ∙ choose (leb_reads (length a.list) (length old)) (λ (x : After). x.outcome.drawing ≡ a.outcome.drawing) (λ _. refl) (λ _. refl)

-- an answer line alone, made in a buffer of its own
pub replied : {bs own line old new : List ℕ} {k n : ℕ} → Put own 0 bs line k → k ≤ 40 → length own ≡ 40 → Fitted old 0 (take k line) new n → Replied bs old new n
replied {bs} {own} {line} {old} {new} {k} {n} p few forty f = record {
  fitted = subst (λ l. Fitted old 0 l new n) (line_is p (omega (arith, forty))) f;
  short = omega (arith, p.behind);
}

pub told_line : (e : Edited) (l : List ℕ) {old new : List ℕ} {n : ℕ} → Replied l old new n → Tells (record { outcome = e; list = []; answer = l }) old new (told_with e n)
told_line e l {old} r = told_behind e [] l old refl (omega arith) r.fitted (omega (arith, r.short))

-- ---- `n`

-- refused, it prints nothing
pub told_refused : (e : Edited) (old : List ℕ) {r : Stepped} → (e.reply ≡ 0 → ⊥) → r ≡ told_with e 0 → Tells (listedly e) old old r
told_refused e old {r} f is =
    rw (ne_eqb e.reply 0 f) (subst (λ r. Tells (record { outcome = e; list = []; answer = [] }) old old r) (sym is)
    (told_behind e [] [] old refl (omega arith) (fits (omega arith) (omega arith) (put_none old 0 refl)) (omega arith)))

module _ (e : Edited) (zero : e.reply ≡ 0) (old : List ℕ) {mid : List ℕ} {l : Written} (t : l ≡ answer_of (list_of (lists_of e.drawing)) (length old))
    (w : mid ≡ buffer_of (list_of (lists_of e.drawing)) old) (short : length (list_of (lists_of e.drawing)) ≤ 7936) where
  -- the list is longer than the buffer
  pub told_eight : {r : Stepped} → (l.reply ≡ 0 → ⊥) → r ≡ told_with (refused 8 e.drawing e.tally) 0 → Tells (listedly e) old mid r
  unfolding answer_of buffer_of in_room
  told_eight {r} f is =
      let list : List ℕ = list_of (lists_of e.drawing) in
      let long : length old < length list = ⊎_elim (λ h. absurd (f (ap (λ (x : Written). x.reply) (rw (le-leb (length list) (length old) h) at t)))) (λ g. omega (arith, g)) (decide (leb_reads (length list) (length old))) in
      let no : leb (length list) (length old) ≡ false = lt-leb (length list) (length old) long in
      rw (eq-eqb e.reply 0 zero) (record {
        answers = rw no (subst (λ r. Answers (record { outcome = refused 8 e.drawing e.tally; list = []; answer = [] }) old mid r) (sym is) (record { outcome = refl; length = refl; bytes = rw no at w }));
        whole = λ h. absurd (omega arith);
      })

  -- the list stands in front of the buffer
  pub list_inside : l.reply ≡ 0 → (l.length ≤ 7936) × (l.length ≤ length mid)
  unfolding answer_of buffer_of
  list_inside z =
      let list : List ℕ = list_of (lists_of e.drawing) in
      let inside : length list ≤ length old = ⊎_elim (λ h. h) (λ g. absurd (omega (arith, z, ap (λ (x : Written). x.reply) (rw (lt-leb (length list) (length old) (omega (arith, g))) at t)))) (decide (leb_reads (length list) (length old))) in
      let yes : leb (length list) (length old) ≡ true = le-leb (length list) (length old) inside in
      let n : l.length ≡ length list = ap (λ (x : Written). x.length) (rw yes at t) in
      (omega arith, omega (arith, ap length (rw yes at w), length-append list (drop (length list) old)))

  -- the list, and its answer line behind it or left out
  pub told_list : {own line new : List ℕ} {loose k n : ℕ} {r : Stepped} → l.reply ≡ 0 → loose ≡ loose_of (lists_of e.drawing)
      → Put own 0 (loose_line loose) line k → k ≤ 40 → length own ≡ 40 → Fitted mid l.length (take k line) new n → r ≡ told_with e n
      → Tells (listedly e) old new r
  unfolding answer_of buffer_of
  told_list {own} {line} {new} {loose} {k} {n} {r} z is-loose p few forty f is =
      let list : List ℕ = list_of (lists_of e.drawing) in
      let answer : List ℕ = loose_line (loose_of (lists_of e.drawing)) in
      let inside : length list ≤ length old = ⊎_elim (λ h. h) (λ g. absurd (omega (arith, z, ap (λ (x : Written). x.reply) (rw (lt-leb (length list) (length old) (omega (arith, g))) at t)))) (decide (leb_reads (length list) (length old))) in
      let yes : leb (length list) (length old) ≡ true = le-leb (length list) (length old) inside in
      let is-line : take k line ≡ answer = line_is p (omega (arith, forty)) ∙ ap loose_line is-loose in
      let fitted : Fitted mid (length list) answer new n = subst (λ a. Fitted mid a answer new n) (ap (λ (x : Written). x.length) (rw yes at t)) (subst (λ x. Fitted mid l.length x new n) is-line f) in
      rw (eq-eqb e.reply 0 zero) (subst (λ r. Tells (record { outcome = e; list = list; answer = answer }) old new r) (sym is)
      (told_behind e list answer old (rw yes at w) inside fitted (omega (arith, p.behind, ap (λ x. length (loose_line x)) is-loose))))

-- ---- what is printed fits where it stands

pub answer_fits : {a : After} {old new : List ℕ} {r : Stepped} → Answers a old new r → length new ≡ length old → r.length ≤ length old
answer_fits {a} {old} {new} {r} w e = omega (arith, w.length, ap length w.bytes, length-append (printed a) (drop r.length old), length-drop r.length old)
