-- Bytes written at a place: parts beside them stay, they are read back, and a lent part may do the writing.
use Prim.Native.Nat.{ℕ, ◌+◌, ◌-◌, ◌≤◌, ◌<◌}
use mathlib.Core.Path.{◌≡◌, refl, ap, ◌∙◌}
use mathlib.Core.Bool.{true, false}
use mathlib.Core.Logic.{◌⊎◌, inl, inr}
use mathlib.Core.List.{List, ◌++◌, append_assoc}
use native.Mathlib.Omega.{arith}
use native.Mathlib.Nat.{zero-add}
use lib.ListN.{length, take, drop, length-append, length-drop, take-append-drop}
use lib.Seq.{take_at, drop_at, length-take-le, drop-drop}
use borrow.Author.Tests.{leb-true, leb-false}
use Rattle.laws.specs.Choice.{◌≤?◌}
use Rattle.laws.specs.Parts.{part_at, put_at}
use Rattle.laws.proofs.Cases.{if_ind, if_le, if_gt, by_test}
use Rattle.laws.proofs.Lists.{part_before, part_after_lem, part_tail, tail_back}

module _ (at : ℕ) (b s : List ℕ) where
  -- where b does not fit nothing changes
  by_fit : (P : List ℕ → Type 0) → P s → (at + length b ≤ length s → P (take at s ++ (b ++ drop (at + length b) s))) → P (put_at at b s)
  unfolding put_at
  by_fit P out fits = if_ind P ((at + length b) ≤? length s) (λ e. fits (leb-true (at + length b) (length s) e)) (λ e. out)

  length_front : at + length b ≤ length s → length (take at s ++ b) ≡ at + length b
  length_front h = omega (arith, length-append (take at s) b, length-take-le at s (omega arith))

  take_put : take at (put_at at b s) ≡ take at s
  take_put = by_fit (λ l. take at l ≡ take at s) refl (λ h. take_at (take at s) _ at (length-take-le at s (omega arith)))

  drop_put : drop (at + length b) (put_at at b s) ≡ drop (at + length b) s
  drop_put =
      by_fit (λ l. drop (at + length b) l ≡ drop (at + length b) s) refl
      (λ h. rw (← append_assoc (take at s) b (drop (at + length b) s)) (drop_at (take at s ++ b) _ (at + length b) (length_front h)))

  pub length_put : length (put_at at b s) ≡ length s
  length_put =
      by_fit (λ l. length l ≡ length s) refl
      (λ h. omega (arith, length-append (take at s) (b ++ drop (at + length b) s), length-append b (drop (at + length b) s), length-take-le at s (omega arith), length-drop (at + length b) s))

  -- the frame law: a part that ends before or starts after what is written stays
  pub put_beside : (lo n : ℕ) → (lo + n ≤ at) ⊎ (at + length b ≤ lo) → part_at lo n (put_at at b s) ≡ part_at lo n s
  put_beside lo n (inl h) = part_before lo n at (put_at at b s) s h take_put
  put_beside lo n (inr h) = part_after_lem lo n (at + length b) (put_at at b s) s h drop_put

  -- the read-back law
  pub put_read : at + length b ≤ length s → part_at at (length b) (put_at at b s) ≡ b
  unfolding put_at
  put_read h =
      rw (if_le (at + length b) (length s) _ _ h, drop_at (take at s) (b ++ drop (at + length b) s) at (length-take-le at s (omega arith)))
      (take_at b (drop (at + length b) s) (length b) refl)

  pub put_out : length s < at + length b → put_at at b s ≡ s
  unfolding put_at
  put_out h = if_gt (at + length b) (length s) _ _ h

  -- a part from a place on, written at its start and given back
  put_lent : at ≤ length s → take at s ++ put_at 0 b (drop at s) ≡ put_at at b s
  unfolding put_at
  put_lent h = by_test ((at + length b) ≤? length s) fits out
    where
      fits : (at + length b) ≤? length s ≡ true → take at s ++ put_at 0 b (drop at s) ≡ put_at at b s
      fits e =
          let k = leb-true (at + length b) (length s) e in
          let f : 0 + length b ≤ length (drop at s) = simp length-drop (omega arith) in
          rw (if_le (at + length b) (length s) _ _ k, if_le (0 + length b) (length (drop at s)) _ _ f, zero-add, drop-drop)

      out : (at + length b) ≤? length s ≡ false → take at s ++ put_at 0 b (drop at s) ≡ put_at at b s
      out e =
          let k = leb-false (at + length b) (length s) e in
          let f : length (drop at s) < 0 + length b = simp length-drop (omega arith) in
          rw (if_gt (at + length b) (length s) _ _ k, if_gt (0 + length b) (length (drop at s)) _ _ f, take-append-drop)

  -- what a function learns that lent the part from a place on to one that writes b at its start
  pub put_tail : (t : List ℕ) → at ≤ length s → t ≡ put_at 0 b (take (length s - at) (drop at s))
      → take at s ++ (t ++ drop (length s - at) (drop at s)) ≡ put_at at b s
  put_tail t h e = tail_back at s t ∙ ap (λ (l : List ℕ). take at s ++ l) (e ∙ rw part_tail) ∙ put_lent h

-- b written at the start of p
pub put_fits : (b p : List ℕ) → length b ≤ length p → put_at 0 b p ≡ b ++ drop (length b) p
unfolding put_at
put_fits b p h = rw (if_le (0 + length b) (length p) _ _ (omega arith), zero-add)
