-- Room for n bytes at a place is that they end by the end.
use Prim.Native.Nat.{ℕ, ◌+◌, ◌-◌, ◌≤◌, ◌<◌}
use mathlib.Core.Path.{◌≡◌, sym, ◌∙◌}
use mathlib.Core.Bool.{Bool, true, false, false≢true}
use native.Mathlib.Omega.{arith}
use borrow.Author.Tests.{leb-true, leb-false, le-leb}
use Rattle.laws.specs.Choice.{when◌then◌else◌, ◌≤?◌}
use Rattle.laws.specs.Bytes.{room}
use Rattle.laws.proofs.Cases.{if_ind, by_test}

pub room_le : (len at n : ℕ) → room len at n ≡ true → at + n ≤ len
unfolding room
room_le len at n e =
    if_ind (λ (t : Bool). t ≡ true → at + n ≤ len) (at ≤? len)
    (λ h f. omega (arith, leb-true at len h, leb-true n (len - at) f)) (λ h f. absurd (false≢true f)) e

pub le_room : (len at n : ℕ) → at + n ≤ len → room len at n ≡ true
unfolding room when◌then◌else◌
le_room len at n h = simp (le-leb at len (omega arith), le-leb n (len - at) (omega arith))

pub room_lt : (len at n : ℕ) → room len at n ≡ false → len < at + n
room_lt len at n e = by_test ((at + n) ≤? len) (λ h. absurd (false≢true (sym e ∙ le_room len at n (leb-true (at + n) len h)))) (λ h. leb-false (at + n) len h)
