-- What was taken before, and then what the read put behind it.
use Rattle.std.proofs.Common.{◌≡◌, ℕ, ◌+◌, ◌-◌, ◌≤◌, List, ◌++◌, rules, length, take, ap, ◌∙◌, sym, subst, length-take-le}
use Rattle.std.proofs.KnownBytes.{Consumes-trans}
use Rattle.std.specs.Io.KnownBytes.{Consumes}
use borrow.Rule.Slice.PartMut.{put_mid, post_of}
use lib.Seq.{take-append-add, take-append-le}
use Rattle.streams.proofs.fill.Goals as goal

filled : (a k n : ℕ) (xs ys : List ℕ) → a ≤ length xs → n ≤ length ys → take a xs ++ take n ys ≡ take (a + n) (put_mid a k xs ys)
filled a k n xs ys within fits =
    let front : length (take a xs) ≡ a = length-take-le a xs within in
    sym (ap (λ m. take (m + n) (put_mid a k xs ys)) (sym front) ∙ take-append-add (take a xs) (ys ++ post_of a k xs) n ∙ ap (λ l. take a xs ++ l) (take-append-le n ys (post_of a k xs) fits))

pub loop-count-preserved : goal.loop-count-preserved
loop-count-preserved g c =
    let l = c.loop-count in
    let k = length l.buffer - l.count in
    let taken = Consumes-trans _ _ _ _ _ l.invariant.taken c.in-Bytes.ensures.takes in
    record {
      within = search rules;
      long = search rules;
      taken = subst (Consumes _ _) (filled l.count k c.in-Bytes.n l.buffer c.read_chunk.new.chunk l.invariant.within c.in-Bytes.ensures.brings.1) taken;
      output = search rules;
    }
