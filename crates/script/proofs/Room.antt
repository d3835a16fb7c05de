-- The value of some digits, with n digits more behind them, stays below a million: `Room n v`. So no sum of `digits` wraps.
use Rattle.std.proofs.Common.{ℕ, zero, suc, ◌+◌, ◌*◌, ◌<◌, ◌≤◌, arith, lit<}

unfoldable pub Room : ℕ → ℕ → Type 0
Room zero v = v < 1000000
Room (suc n) v = Room n (v * 10 + 9)

room_low : (n a b : ℕ) → b ≤ a → Room n a → Room n b
unfolding Room
room_low zero a b le h = omega arith
room_low (suc n) a b le h = room_low n (a * 10 + 9) (b * 10 + 9) (omega arith) h

pub room_below : (n v : ℕ) → Room n v → v < 1000000
unfolding Room
room_below zero v h = h
room_below (suc n) v h = let l : v * 10 + 9 < 1000000 = room_below n (v * 10 + 9) h in omega arith

pub room_more : (n v d : ℕ) → d < 10 → Room (suc n) v → Room n (v * 10 + d)
unfolding Room
room_more n v d h r = room_low n (v * 10 + 9) (v * 10 + d) (omega arith) r

pub room_first : (v : ℕ) → v < 10 → Room 5 v
unfolding Room
room_first v h = room_low 5 9 v (omega arith) (lit< tt)
