-- The place behind a list that is written, and lists written one after the other.
use Prim.Native.Nat.{ℕ, ◌+◌, ◌≤◌}
use mathlib.Core.Path.{◌≡◌, sym, ◌∙◌}
use mathlib.Core.List.{List, ◌++◌}
use native.Mathlib.Omega.{arith}
use lib.ListN.{length, length-append}
use Rattle.laws.specs.Parts.{put_at}
use mathlib.Core.Bool.{false, false≢true}
use borrow.Author.Tests.{leb-true}
use Rattle.laws.specs.Bytes.{room}
use Rattle.laws.specs.Choice.{◌≤?◌}
use Rattle.laws.proofs.Cases.{by_test, if_le, if_false}
use Rattle.laws.proofs.Rooms.{le_room}
use Rattle.laws.proofs.Frame.{length_put}
use Rattle.laws.proofs.Overwriting.{over_next}
use Rattle.laws.proofs.Storing.{put_over}
use Rattle.record.specs.Numbers.{behind}

pub behind_fits : (at : ℕ) (b s : List ℕ) → at + length b ≤ length s → behind at b s ≡ at + length b
unfolding behind
behind_fits at b s h = if_le (at + length b) (length s) _ _ h

pub behind_out : (at : ℕ) (b s : List ℕ) → room (length s) at (length b) ≡ false → behind at b s ≡ at
unfolding behind
behind_out at b s h =
    by_test ((at + length b) ≤? length s)
    (λ e. absurd (false≢true (sym h ∙ le_room (length s) at (length b) (leb-true (at + length b) (length s) e))))
    (λ e. if_false _ _ e)

-- ---- one list after the other

pub put_next : (at : ℕ) (b t s : List ℕ) → at + (length b + length t) ≤ length s
    → put_at (behind at b s) t (put_at at b s) ≡ put_at at (b ++ t) s
put_next at b t s h =
    let p : at + length b ≤ length s = omega arith in
    let q : at + length (b ++ t) ≤ length s = simp length-append (omega arith) in
    let r : at + length b + length t ≤ length (put_at at b s) = simp length_put (omega arith) in
    rw (behind_fits at b s p, put_over (at + length b) t (put_at at b s) r, put_over at b s p, put_over at (b ++ t) s q)
    (over_next s at b t)
