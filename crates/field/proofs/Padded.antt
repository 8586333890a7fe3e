-- Cells padded with 0: digits after a sign, and a value's four bytes.
use Prim.Native.Nat.{ℕ, ◌+◌, ◌/◌, ◌%◌, ◌≤◌}
use mathlib.Core.Path.{◌≡◌, sym, ap, ◌∙◌}
use mathlib.Core.List.{List, [], ◌∷◌, ◌++◌}
use lib.ListN.{length, drop_of_length-le}
use lib.Seq.{take-nil}
use Rattle.laws.specs.Choice.{when◌then◌else◌, ◌=?◌, ◌<?◌}
use Rattle.laws.proofs.Cases.{if_ind}
use Rattle.laws.specs.Parts.{part_at}
use Rattle.laws.specs.Overwrite.{over, fit}
use Rattle.laws.specs.Digits.{low_first}
use Rattle.laws.specs.Bytes.{byte_at}
use Rattle.laws.proofs.Overwriting.{over_fit, fit_four}
use Rattle.laws.proofs.Lists.{part_at_lem}
use Rattle.laws.proofs.Numerals.{low_at}
use native.Mathlib.Nat.{div-one, add-zero}
use native.Mathlib.Omega.{arith}
use borrow.Author.Tests.{eqb-true, eqb-false}

-- digits written after a sign, where there is one
pub after_sign : (signs y : ℕ) (ds : List ℕ) → signs ≤ 1
    → over (fit 0 32 (when signs =? 0 then [] else y ∷ [])) signs ds ≡ fit 0 32 ((when signs =? 0 then [] else y ∷ []) ++ ds)
after_sign signs y ds h =
    let l : length (when signs =? 0 then [] else y ∷ []) ≡ signs =
    if_ind (λ (s : List ℕ). length s ≡ signs) (signs =? 0) (λ e. sym (eqb-true signs 0 e)) (λ e. omega (arith, eqb-false signs 0 e)) in
    ap (λ (i : ℕ). over (fit 0 32 (when signs =? 0 then [] else y ∷ [])) i ds) (sym l) ∙ over_fit 0 32 (when signs =? 0 then [] else y ∷ []) ds

-- a value read byte by byte
pub part_four : (at n : ℕ) (s : List ℕ) → fit 0 4 (part_at at n s)
    ≡ (when 0 <? n then byte_at s at else 0) ∷ (when 1 <? n then byte_at s (at + 1) else 0)
    ∷ (when 2 <? n then byte_at s (at + 2) else 0) ∷ (when 3 <? n then byte_at s (at + 3) else 0) ∷ []
part_four at n s =
    fit_four 0 (part_at at n s) ∙ rw (part_at_lem at n 0 s, part_at_lem at n 1 s, part_at_lem at n 2 s, part_at_lem at n 3 s, add-zero)

-- a value past the end
pub part_none : (at n : ℕ) (s : List ℕ) → length s ≤ at → fit 0 4 (part_at at n s) ≡ 0 ∷ 0 ∷ 0 ∷ 0 ∷ []
unfolding fit
part_none at n s h = rw (drop_of_length-le s {i = at} h, take-nil)

-- a value made byte by byte
pub low_four : (n x : ℕ) → fit 0 4 (low_first n x)
    ≡ (when 0 <? n then x % 256 else 0) ∷ (when 1 <? n then x / 256 % 256 else 0)
    ∷ (when 2 <? n then x / 65536 % 256 else 0) ∷ (when 3 <? n then x / 16777216 % 256 else 0) ∷ []
low_four n x = fit_four 0 (low_first n x) ∙ rw (low_at n x 0, low_at n x 1, low_at n x 2, low_at n x 3, div-one)
