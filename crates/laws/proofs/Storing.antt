-- Bytes stored one after the other are a list written at a place: what is left to store, written onto what is there, is the whole.
use Prim.Native.Nat.{ℕ, ◌+◌, ◌≤◌, ◌<◌}
use mathlib.Core.Path.{◌≡◌, refl, sym, ap, ◌∙◌}
use mathlib.Core.List.{List, [], ◌∷◌}
use native.Mathlib.Omega.{arith}
use native.Mathlib.Numerals.{add-one}
use lib.ListN.{length, drop, set, get_or}
use lib.Seq.{drop-drop, drop-cons, drop-length}
use Rattle.laws.specs.Overwrite.{over}
use Rattle.laws.specs.Parts.{put_at}
use Rattle.laws.proofs.Cases.{if_le}
use Rattle.laws.proofs.Overwriting.{over_back, over_cons, over_nil}

-- what fits is written over
pub put_over : (at : ℕ) (b s : List ℕ) → at + length b ≤ length s → put_at at b s ≡ over s at b
unfolding put_at
put_over at b s h =
    rw (if_le (at + length b) (length s) _ _ h, ← drop-drop (length b) at s) (over_back s at (length b) b refl h)

-- a store, and the rest written after it
pub store_over : (d : List ℕ) (at next y : ℕ) (s : List ℕ) → next ≡ at + 1 → at < length d → over (set d at y) next s ≡ over d at (y ∷ s)
store_over d at next y s e h = rw (e, add-one) (over_cons d at y s h)

-- one store is a list of one
pub over_one : (at : ℕ) (s : List ℕ) (x : ℕ) → at < length s → set s at x ≡ over s at (x ∷ [])
over_one at s x h = sym (over_nil _ (at + 1)) ∙ store_over s at (at + 1) x [] refl h

-- ---- a copy

pub copy_turn : (d b : List ℕ) (at i : ℕ) → i < length b → at + i < length d
    → over (set d (at + i) (get_or b i 0)) (at + (i + 1)) (drop (i + 1) b) ≡ over d (at + i) (drop i b)
copy_turn d b at i h k =
    store_over d (at + i) (at + (i + 1)) (get_or b i 0) (drop (i + 1) b) (omega arith) k
    ∙ rw (add-one, ← drop-cons b i 0 h)

pub copy_end : (d e b : List ℕ) (at i : ℕ) → i ≡ length b → at + length b ≤ length e → over d (at + i) (drop i b) ≡ over e at b → d ≡ put_at at b e
copy_end d e b at i h k p =
    sym (over_nil d (at + i)) ∙ ap (λ (l : List ℕ). over d (at + i) l) (sym (rw h (drop-length b))) ∙ p ∙ sym (put_over at b e k)
