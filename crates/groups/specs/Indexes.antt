-- Below the calls: what the functions on an index of some bytes tell, as what is taken from the bytes from that index on.
use Rattle.std.specs.Prelude.{ℕ, List, drop, Result, Ok, Err}
use Rattle.refusal.specs.declared.Refusal.{Refusal}
use Rattle.refusal.specs.Numbers.{number_of}
use Rattle.groups.specs.Taken.{Taken, took, refused}

-- a value and the bytes behind it, or a refusal
abbrev pub taken_at : {A : Type 0} → List ℕ → Result (A × ℕ) Refusal → Taken A
taken_at s (Ok r) = took r.0 (drop r.1 s)
taken_at s (Err r) = refused (number_of r)
