-- "Numbered replies" (document 01, and document 02, P4 and P5): the number of each refusal, and what a call that may be refused answers.
use Rattle.std.specs.Prelude.{ℕ, Result, Ok, Err}
use Rattle.refusal.specs.declared.Refusal.{Refusal}
use Rattle.refusal.specs.declared.Refusal.TheVariants.{CoordinateOutside, StartPastEnd, SizeOutside, UnknownSymbol, BadLabel, BoxTouches, TooManyComponents, BufferTooShort, Unlawful, Unreadable, TooManyWires, FileEnds, FileWrong, BytesBehind}

-- the number of a refusal
abbrev pub number_of : Refusal → ℕ
number_of CoordinateOutside = 1
number_of StartPastEnd = 2
number_of SizeOutside = 3
number_of UnknownSymbol = 4
number_of BadLabel = 5
number_of BoxTouches = 6
number_of TooManyComponents = 7
number_of BufferTooShort = 8
number_of Unlawful = 9
number_of Unreadable = 10
number_of TooManyWires = 11
number_of FileEnds = 12
number_of FileWrong = 13
number_of BytesBehind = 14

-- "For an answer that is an enum, a definition provides this paper's number and values for each of the enum's cases": what is right, or what
-- the refusal's number tells
abbrev pub answered : {A B : Type 0} → (A → B) → (ℕ → B) → Result A Refusal → B
answered right refused (Ok a) = right a
answered right refused (Err r) = refused (number_of r)

-- the number alone: 0 where nothing is refused
abbrev pub reply_of : {A : Type 0} → Result A Refusal → ℕ
reply_of r = answered (λ a. 0) (λ n. n) r
