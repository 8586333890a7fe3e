-- What ENTER stores loads back as the cells that were shown; only minus zero, which is stored as 0, comes back with the sign '+'.
use Prim.Native.Nat.{ℕ, ◌+◌, ◌-◌, ◌≤◌, ◌<◌}
use mathlib.Core.Path.{◌≡◌, refl, sym, ◌∙◌}
use mathlib.Core.Bool.{Bool, true, false, false≢true}
use mathlib.Core.List.{List}
use native.Mathlib.Omega.{arith}
use lib.ListN.{length, get_or, drop, length-drop}
use lib.Seq.{length-take-le, get_or-take, get_or-drop}
use borrow.Author.Tests.{ltb-true, ltb-false, eqb-true, eqb-false, ne_eqb}
use Rattle.laws.specs.Choice.{when◌then◌else◌, ◌and◌, ◌=?◌, ◌<?◌}
use Rattle.laws.specs.Parts.{part_at}
use Rattle.laws.specs.Digits.{digits_of}
use Rattle.laws.proofs.Cases.{if_false, if_eq, if_ne, by_test, and_l, and_r, and_second}
use Rattle.laws.proofs.Numerals.{digits_of_number}
use Rattle.field.specs.Formats.{numeral_of, bits_of}
use Rattle.field.specs.Profiles.{profile_of}
use Rattle.field.specs.Cells.{distance, sign_of, in_digits, shown_by, minus, storable, of_digits, cells_of, stored_in, stores, work_of}
use Rattle.field.specs.Sound.{Sound}
use Rattle.field.specs.declared.numeral.Numeral.{Numeral}
use Rattle.field.specs.declared.kind.Kind.{Kind}
use Rattle.field.specs.declared.kind.Kind.TheVariants.{Integer, Counter, Time, Date, Switch, Option, Trigger}
use Rattle.field.proofs.Bounds.{format_sound, bits_sound}
use Rattle.field.proofs.Legal.{RangeCells}
use Rattle.field.proofs.Ranges.{DigitCells, sign_at, digit_at, integer_digits, switch_digits}
use Rattle.field.proofs.Trip.{distance_up, distance_down, sign_up, sign_down, work_at}
use Rattle.field.proofs.Entered.{by_sign, digits_below, Fitting, parts_again, switch_stores}

-- ---- numbers in digits

-- minus zero: the sign cell shows '-', and the digits show 0
abbrev pub null_minus : Numeral → List ℕ → Bool
null_minus n cs = minus n cs and (shown_by n cs =? 0)

module _ (n : Numeral) (s : Sound n) (cs : List ℕ) (e : storable n cs ≡ true) where
  -- the number that is stored is as far from 0 as the cells show
  pub distance_again : distance n (of_digits n cs) ≡ shown_by n cs
  distance_again =
      by_sign n s cs e
      (λ m u q. rw q (distance_up n (shown_by n cs) u))
      (λ m z q. rw (q, z) (distance_up n 0 (omega arith)))
      (λ m p b a q. rw q (distance_down n (n.limit - shown_by n cs) a ∙ omega (arith, s.apart)))

  -- without a sign cell no '-' is shown
  minus_sign : minus n cs ≡ true → n.signs ≡ 0 → ⊥
  unfolding minus
  minus_sign m z = false≢true (sym (if_eq n.signs 0 false _ z) ∙ m)

  -- with one, '-' is shown by a 0 in it
  first : (t : Bool) → (n.signs ≡ 0 → ⊥) → minus n cs ≡ t → get_or cs 0 0 =? 0 ≡ t
  unfolding minus
  first t z m = sym (if_ne n.signs 0 false _ z) ∙ m

  -- its sign is that of the cells, with '+' for minus zero
  pub sign_again : DigitCells n cs → (n.signs ≡ 0 → ⊥) → sign_of n (of_digits n cs) ≡ (when null_minus n cs then 1 else get_or cs 0 0)
  unfolding ◌and◌ when◌then◌else◌
  sign_again h z =
      by_sign n s cs e
      (λ m u q. rw (q, sign_up n (shown_by n cs) u, m, plus (eqb-false (get_or cs 0 0) 0 (first false z m))))
      (λ m t q. rw (q, sign_up n 0 (omega arith), m, t))
      (λ m p b a q. rw (q, sign_down n (n.limit - shown_by n cs) a, m, ne_eqb (shown_by n cs) 0 (λ t. omega arith), eqb-true (get_or cs 0 0) 0 (first true z m)))
    where
      plus : (get_or cs 0 0 ≡ 0 → ⊥) → get_or cs 0 0 ≡ 1
      plus t = omega (arith, h.sign 0 (omega arith))

module _ (n : Numeral) (s : Sound n) (cs : List ℕ) (h : DigitCells n cs) where
  -- the digits that come back
  digits_again : n.signs + n.digits ≤ length cs → digits_of n.base n.digits (shown_by n cs) ≡ part_at n.signs n.digits cs
  unfolding shown_by
  digits_again l =
      digits_of_number n.base n.digits (part_at n.signs n.digits cs)
      (length-take-le n.digits (drop n.signs cs) (simp length-drop (omega arith))) (digits_below n s cs h)

  -- the cells of the number that is stored are those shown, with '+' for minus zero
  pub numeral_again : n.signs + n.digits ≤ length cs → storable n cs ≡ true → (i : ℕ) → i < n.signs + n.digits
      → get_or (in_digits n (of_digits n cs)) i 0 ≡ (when null_minus n cs and (i =? 0) then 1 else get_or cs i 0)
  numeral_again l e i hi = by_test (i <? n.signs) front back
    where
      front : i <? n.signs ≡ true → get_or (in_digits n (of_digits n cs)) i 0 ≡ (when null_minus n cs and (i =? 0) then 1 else get_or cs i 0)
      front t =
          let lt = ltb-true i n.signs t in
          let z : i ≡ 0 = omega (arith, s.signs) in
          rw (sign_at n s (of_digits n cs) i lt, z, and_second (null_minus n cs) refl) (sign_again n s cs e h (λ q. omega arith))

      none : n.signs ≤ i → null_minus n cs and (i =? 0) ≡ false
      none ge =
          by_test (null_minus n cs and (i =? 0))
          (λ t. absurd (minus_sign n s cs e (and_l _ _ (and_l _ _ t)) (omega (arith, eqb-true i 0 (and_r _ _ t))))) (λ t. t)

      back : i <? n.signs ≡ false → get_or (in_digits n (of_digits n cs)) i 0 ≡ (when null_minus n cs and (i =? 0) then 1 else get_or cs i 0)
      back t =
          let ge = ltb-false i n.signs t in
          let d : i - n.signs < n.digits = omega arith in
          let p : n.signs + (i - n.signs) ≡ i = omega arith in
          rw (
            digit_at n s (of_digits n cs) i ge,
            distance_again n s cs e,
            digits_again l,
            get_or-take n.digits (drop n.signs cs) (i - n.signs) 0 d,
            get_or-drop n.signs cs (i - n.signs) 0,
            p,
          )
          (sym (if_false 1 (get_or cs i 0) (none ge)))

-- ---- every kind

-- an integer that shows minus zero; no other kind has a sign
unfoldable pub minus_zero : Kind → List ℕ → Bool
minus_zero (Integer f) cs = null_minus (numeral_of f) cs
minus_zero (Counter s) cs = false
minus_zero (Time long) cs = false
minus_zero (Date long) cs = false
minus_zero (Switch n) cs = false
minus_zero (Option n w) cs = false
minus_zero Trigger cs = false

-- the cells that were shown come back, with '+' for minus zero
pub shown_again : (kind : Kind) (cs : List ℕ) → Fitting kind → RangeCells kind cs → (profile_of kind).cells ≤ length cs → stores kind cs ≡ true
    → (i : ℕ) → i < (profile_of kind).cells
    → get_or (work_of (cells_of kind (stored_in kind cs))).cells i 0 ≡ (when minus_zero kind cs and (i =? 0) then 1 else get_or cs i 0)
unfolding minus_zero minus profile_of cells_of stored_in stores ◌and◌ when◌then◌else◌
shown_again kind cs k h l e i hi = work_at kind (cells_of kind (stored_in kind cs)) i hi ∙ go kind k h l e hi
  where
    go : (kind : Kind) → Fitting kind → RangeCells kind cs → (profile_of kind).cells ≤ length cs → stores kind cs ≡ true → i < (profile_of kind).cells
        → get_or (cells_of kind (stored_in kind cs)) i 0 ≡ (when minus_zero kind cs and (i =? 0) then 1 else get_or cs i 0)
    go (Integer f) k h l e hi = numeral_again (numeral_of f) (format_sound f) cs (integer_digits f cs h) l e i hi
    go (Counter s) k h l e hi = parts_again (Counter s) cs tt k h i hi
    go (Time long) k h l e hi = parts_again (Time long) cs tt k h i hi
    go (Date long) k h l e hi = parts_again (Date long) cs tt k h i hi
    go (Switch n) k h l e hi = numeral_again (bits_of n) (bits_sound n) cs (switch_digits n cs h) (omega arith) (switch_stores n cs h) i (omega arith)
    go (Option n w) k h l e hi = parts_again (Option n w) cs tt k h i hi
    go Trigger k h l e hi = parts_again Trigger cs tt k h i hi
