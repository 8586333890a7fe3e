-- Padding: the place that is aligned after another is the first odd or even one, and a byte skipped is zero.
use Prim.Native.Nat.{ℕ, ◌+◌, ◌%◌, ◌≤◌, ◌<◌}
use mathlib.Core.Path.{◌≡◌}
use mathlib.Core.List.{List}
use lib.ListN.{length}
use native.Mathlib.Omega.{arith}
use Rattle.cmf.specs.Layouts.{Aligned}
use Rattle.cmf.specs.Readers.{odd_from, even_from}
use Rattle.cmf.proofs.Agreement.{PlaceIs}

module _ {im : List ℕ} where
  -- a place that is aligned, where it should be
  is : {parity at place from : ℕ} → Aligned im parity at place → place ≡ from → PlaceIs im at place from
  is a e = record { is = e; zeroed = λ n. a.zeroed (later a.after n) }
    where
      later : {at place : ℕ} → at ≤ place → (at ≡ place → ⊥) → at < place
      later l n = omega arith

  -- it is at the first odd place
  pub odd_is : {at place : ℕ} → Aligned im 1 at place → PlaceIs im at place (odd_from at)
  odd_is a = is a (omega arith)

  -- or at the first even one
  pub even_is : {at place : ℕ} → Aligned im 0 at place → PlaceIs im at place (even_from at)
  even_is a = is a (omega arith)

module _ (im : List ℕ) where
  -- the first place of a parity is aligned, if it is in the image
  aligned :
      (parity at place from : ℕ) → PlaceIs im at place from → place < length im → at ≤ from → from ≤ at + 1 → from % 2 ≡ parity → Aligned im parity at place
  aligned parity at place from p i l u e =
      let s : place ≡ from = p.is in
      record {
        agrees = rw s e;
        after = omega arith;
        first = omega arith;
        inside = λ h. omega arith;
        zeroed = λ h. p.zeroed (λ n. omega arith);
      }

  -- so is the first odd place
  pub odd_aligned : (at place : ℕ) → PlaceIs im at place (odd_from at) → place < length im → Aligned im 1 at place
  odd_aligned at place p i = aligned 1 at place (odd_from at) p i (omega arith) (omega arith) (omega arith)

  -- and the first even one
  pub even_aligned : (at place : ℕ) → PlaceIs im at place (even_from at) → place < length im → Aligned im 0 at place
  even_aligned at place p i = aligned 0 at place (even_from at) p i (omega arith) (omega arith) (omega arith)
