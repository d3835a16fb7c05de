-- Below the calls: what a read brings. No more bytes than the lent buffer has, and at least one. Which bytes these are is told where the reader
-- tells what it has left; what the system gives, no contract can say.
use Rattle.std.specs.Prelude.{◌≡◌, false, Option, List, [], ℕ, ◌<◌, ◌≤◌, length, take}
use Rattle.std.specs.Io.KnownBytes.{Consumes, IsAtEnd}
use Rattle.streams.specs.declared.Filled.{Filled}
use Rattle.streams.specs.declared.Got.{Got}
use Rattle.streams.specs.declared.Got.TheVariants.{Bytes, End, Failed}

abbrev pub Brings : ℕ → Got → Type 0
Brings room (Bytes n) = (1 ≤ n) × (n ≤ room)
Brings room End = Unit
Brings room Failed = Unit

-- of the bytes that the reader has left, where it tells them, a read takes those that it puts in front of the buffer; at the end there is none
abbrev pub Takes : Option (List ℕ) → Option (List ℕ) → Got → List ℕ → Type 0
Takes old new (Bytes n) buffer = Consumes old new (take n buffer)
Takes old new End buffer = Consumes old new [] × (0 < length buffer → IsAtEnd new)
Takes old new Failed buffer = Consumes old new []

-- what filling a lent buffer brings: no more bytes than it has
abbrev pub Fills : ℕ → Filled → Type 0
Fills room r = r.count ≤ room

-- it takes what it puts there, and unless a read failed, it leaves room only at the end
abbrev pub TakesAll : Option (List ℕ) → Option (List ℕ) → Filled → List ℕ → Type 0
TakesAll old new r buffer = Consumes old new (take r.count buffer) × (r.failed ≡ false → r.count < length buffer → IsAtEnd new)
