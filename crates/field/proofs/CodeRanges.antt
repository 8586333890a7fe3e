-- The ranges of the integer codes as tables: each row is the number that the code's numeral has, by computing it.
use Prim.Native.Nat.{ℕ, ◌-◌, ◌≤◌, ◌<◌, min}
use mathlib.Core.Path.{◌≡◌, refl, sym, ◌∙◌}
use mathlib.Core.Bool.{true, false}
use mathlib.Core.List.{List, [], ◌∷◌}
use native.Mathlib.Omega.{arith}
use lib.ListN.{get_or}
use borrow.Author.Tests.{eqb-true, ne_eqb, le-leb, lt-leb, leb-true, leb-false}
use Rattle.laws.specs.Choice.{when◌then◌else◌, ◌and◌, ◌=?◌, ◌<?◌, ◌≤?◌}
use Rattle.laws.proofs.Cases.{if_le, if_gt, and_true, and_false, by_test}
use Rattle.laws.proofs.Tables.{passes, RightAt, right_at}
use Rattle.field.specs.Formats.{format_of, signs_of, digits_in, base_of, limit_of, half_of, top_of, numeral_of}
use Rattle.field.specs.Cells.{spans}

-- the tables of the code
abbrev pub above_table : List ℕ
above_table = 99 ∷ 255 ∷ 255 ∷ 99 ∷ 127 ∷ 999 ∷ 9999 ∷ 65535 ∷ 65535 ∷ 999 ∷ 9999 ∷ []

abbrev pub below_table : List ℕ
below_table = 0 ∷ 0 ∷ 0 ∷ 99 ∷ 128 ∷ 0 ∷ 0 ∷ 0 ∷ 0 ∷ 999 ∷ 9999 ∷ []

above_rows : RightAt (λ (c : ℕ). (numeral_of (format_of c)).above) 11 above_table
unfolding format_of signs_of digits_in base_of limit_of half_of top_of when◌then◌else◌ ◌and◌
above_rows = refl

below_rows : RightAt (λ (c : ℕ). (numeral_of (format_of c)).below) 11 below_table
unfolding format_of signs_of digits_in base_of limit_of half_of top_of when◌then◌else◌ ◌and◌
below_rows = refl

pub above_at : (c : ℕ) → c ≤ 0x0a → get_or above_table c 0 ≡ (numeral_of (format_of c)).above
above_at c h = right_at (λ (n : ℕ). (numeral_of (format_of n)).above) 11 above_table above_rows c (omega arith)

pub below_at : (c : ℕ) → c ≤ 0x0a → get_or below_table c 0 ≡ (numeral_of (format_of c)).below
below_at c h = right_at (λ (n : ℕ). (numeral_of (format_of n)).below) 11 below_table below_rows c (omega arith)

-- codes below 5 have one byte, the others two
pub limit_at : (c : ℕ) → c ≤ 0x0a → limit_of (format_of c) ≡ (when c <? 5 then 256 else 65536)
unfolding format_of limit_of when◌then◌else◌ ◌and◌
limit_at c h = eqb-true _ _ (passes (λ (n : ℕ). limit_of (format_of n) =? (when n <? 5 then 256 else 65536)) 11 refl c (omega arith))

-- a code past the last reads as the last
past_last : (c : ℕ) → 0x0a < c → format_of c ≡ format_of 0x0a
unfolding format_of when◌then◌else◌
past_last c h =
    simp (
      ne_eqb c 0 (λ e. omega arith),
      ne_eqb c 1 (λ e. omega arith),
      ne_eqb c 2 (λ e. omega arith),
      ne_eqb c 3 (λ e. omega arith),
      ne_eqb c 4 (λ e. omega arith),
      ne_eqb c 5 (λ e. omega arith),
      ne_eqb c 6 (λ e. omega arith),
      ne_eqb c 7 (λ e. omega arith),
      ne_eqb c 8 (λ e. omega arith),
      ne_eqb c 9 (λ e. omega arith),
    )

pub up_to_last : (c : ℕ) → format_of (min c 0x0a) ≡ format_of c
up_to_last c =
    by_test (c ≤? 0x0a) (λ e. let h = leb-true c 0x0a e in let m : min c 0x0a ≡ c = omega arith in rw m)
    (λ e. let h = leb-false c 0x0a e in let m : min c 0x0a ≡ 0x0a = omega arith in rw m (sym (past_last c (leb-false c 0x0a e))))

-- the three ways to settle whether a number is in a code's range
module _ (c x : ℕ) (k : c ≤ 0x0a) where
  pub spans_near : x ≤ get_or above_table c 0 → true ≡ spans (numeral_of (format_of c)) x
  unfolding spans
  spans_near h = sym (if_le x (numeral_of (format_of c)).above _ _ (omega (arith, above_at c k)))

  module _ (limit : ℕ) (e : limit ≡ limit_of (format_of c)) (far : get_or above_table c 0 < x) where
    pub spans_far : limit - get_or below_table c 0 ≤ x → x <? limit ≡ spans (numeral_of (format_of c)) x
    unfolding spans
    spans_far h =
        rw e
        (sym (if_gt x (numeral_of (format_of c)).above _ _ (omega (arith, above_at c k))
        ∙ and_true _ (le-leb (limit_of (format_of c) - (numeral_of (format_of c)).below) x (omega (arith, below_at c k)))))

    pub spans_between : x < limit - get_or below_table c 0 → false ≡ spans (numeral_of (format_of c)) x
    unfolding spans
    spans_between h =
        sym (if_gt x (numeral_of (format_of c)).above _ _ (omega (arith, above_at c k))
        ∙ and_false _ (lt-leb (limit_of (format_of c) - (numeral_of (format_of c)).below) x (omega (arith, below_at c k))))
