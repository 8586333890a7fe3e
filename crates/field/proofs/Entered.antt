-- What ENTER stores is in range and fits the field's bytes: storable cells of a number in digits stand for a number of its range,
-- and parts, which are stored as they are, load back the same and so stay legal.
use Prim.Native.Nat.{ℕ, zero, suc, ◌+◌, ◌-◌, ◌^◌, ◌≤◌, ◌<◌}
use mathlib.Core.Path.{◌≡◌, refl, ap, ◌∙◌}
use mathlib.Core.Bool.{Bool, true, false}
use mathlib.Core.List.{List, [], ◌∷◌}
use native.Mathlib.Omega.{arith}
use native.Mathlib.Nat.{mod-eq_of_lt, mod_self, pow-le-pow_right}
use lib.ListN.{length, get_or, drop, length-take}
use lib.Seq.{get_or-take, get_or-drop}
use lib.Dec.{lit≤}
use borrow.Author.Tests.{leb-true, le-leb, eqb-true, eqb-false}
use Rattle.laws.specs.Choice.{when◌then◌else◌, ◌=?◌}
use Rattle.laws.specs.Parts.{part_at}
use Rattle.laws.specs.Digits.{from_low}
use Rattle.laws.proofs.Cases.{if_ind, if_true, if_false, if_eq, by_test, and_i}
use Rattle.laws.proofs.Numerals.{Below, below_all, number_below, number_of_low}
use Rattle.field.specs.Formats.{numeral_of, bits_in, bits_of}
use Rattle.field.specs.Profiles.{profile_of, end_of, cell_of}
use Rattle.field.specs.Values.{number_of}
use Rattle.field.specs.Cells.{spans, shown_by, minus, storable, of_digits, cells_of, stored_in, in_span, stores, all_within, in_range, finished}
use Rattle.field.specs.Sound.{Sound}
use Rattle.field.specs.declared.numeral.Numeral.{Numeral}
use Rattle.field.specs.declared.kind.Kind.{Kind}
use Rattle.field.specs.declared.kind.Kind.TheVariants.{Integer, Counter, Time, Date, Switch, Option, Trigger}
use Rattle.field.specs.declared.profile.Cell.{Cell}
use Rattle.field.specs.declared.work.Work.{Work}
use Rattle.field.proofs.Bounds.{format_sound, bits_sound, limit_bytes}
use Rattle.field.proofs.Legal.{RangeCells, LegalCells, all_bool}
use Rattle.field.proofs.Rows.{of_most, legal_range, same_range}
use Rattle.field.proofs.Ranges.{DigitCells, range_of_integer, range_of_switch, switch_digits}
use Rattle.field.proofs.Trip.{spans_up, spans_down, finished_bytes}

-- ---- numbers in digits

module _ (n : Numeral) (s : Sound n) (cs : List ℕ) where
  -- minus zero is stored as 0
  stored_null : minus n cs ≡ true → shown_by n cs ≡ 0 → of_digits n cs ≡ 0
  unfolding of_digits
  stored_null m z = let l : n.limit - 0 ≡ n.limit = omega arith in if_true _ _ m ∙ rw (z, l, mod_self)

  -- any other number below 0 is counted back from the limit
  stored_down : minus n cs ≡ true → n.limit - shown_by n cs < n.limit → of_digits n cs ≡ n.limit - shown_by n cs
  unfolding of_digits
  stored_down m l = if_true _ _ m ∙ mod-eq_of_lt l

  -- the three ways in which storable cells stand for a number: 0 and above, minus zero, below 0
  pub by_sign : {A : Type 0} → storable n cs ≡ true
      → (minus n cs ≡ false → shown_by n cs ≤ n.above → of_digits n cs ≡ shown_by n cs → A)
      → (minus n cs ≡ true → shown_by n cs ≡ 0 → of_digits n cs ≡ 0 → A)
      → (minus n cs ≡ true → 0 < shown_by n cs → shown_by n cs ≤ n.below → n.above < n.limit - shown_by n cs → of_digits n cs ≡ n.limit - shown_by n cs → A)
      → A
  unfolding storable of_digits
  by_sign {A} e up null down = by_test (minus n cs) (λ m. by_test (shown_by n cs =? 0) (is_null m) (is_down m)) is_up
    where
      is_up : minus n cs ≡ false → A
      is_up m = up m (leb-true (shown_by n cs) n.above (rw (if_false _ _ m) at e)) (if_false _ _ m)

      is_null : minus n cs ≡ true → shown_by n cs =? 0 ≡ true → A
      is_null m t = let z = eqb-true (shown_by n cs) 0 t in null m z (stored_null m z)

      is_down : minus n cs ≡ true → shown_by n cs =? 0 ≡ false → A
      is_down m t =
          let z : shown_by n cs ≡ 0 → ⊥ = eqb-false (shown_by n cs) 0 t in
          let b : shown_by n cs ≤ n.below = leb-true (shown_by n cs) n.below (rw (if_true _ _ m) at e) in
          let p : 0 < shown_by n cs = omega arith in
          down m p b (omega (arith, s.apart)) (stored_down m (omega (arith, s.apart)))

  -- storable cells stand for a number in range
  pub spans_stored : storable n cs ≡ true → spans n (of_digits n cs) ≡ true
  spans_stored e =
      by_sign e (λ m u q. rw q (spans_up n _ u)) (λ m z q. rw q (spans_up n 0 (omega arith)))
      (λ m p b a q. rw q (spans_down n (n.limit - shown_by n cs) a (omega arith) (omega (arith, s.apart))))

  -- and for one that the bytes can hold
  pub digits_limit : storable n cs ≡ true → of_digits n cs < n.limit
  digits_limit e =
      by_sign e (λ m u q. omega (arith, s.apart)) (λ m z q. omega (arith, s.apart)) (λ m p b a q. omega (arith, s.apart))

module _ (n : Numeral) (s : Sound n) (cs : List ℕ) (h : DigitCells n cs) where
  -- legal digit cells hold digits
  pub digits_below : Below n.base (part_at n.signs n.digits cs)
  digits_below = below_all n.base (part_at n.signs n.digits cs) at_place
    where
      at_place : (i : ℕ) → i < length (part_at n.signs n.digits cs) → get_or (part_at n.signs n.digits cs) i 0 < n.base
      at_place i hi =
          let d : i < n.digits = omega (arith, length-take n.digits (drop n.signs cs)) in
          rw (get_or-take n.digits (drop n.signs cs) i 0 d, get_or-drop n.signs cs i 0) (h.digit (n.signs + i) (omega arith) (omega arith))

  -- and show a number below the power of the base
  pub shown_below : shown_by n cs < n.base ^ n.digits
  unfolding shown_by
  shown_below =
      let pos : 0 < n.base = omega (arith, s.two) in
      let l : length (part_at n.signs n.digits cs) ≤ n.digits = omega (arith, length-take n.digits (drop n.signs cs)) in
      let m : n.base ^ length (part_at n.signs n.digits cs) ≤ n.base ^ n.digits = pow-le-pow_right pos l in
      omega (arith, number_below n.base 0 (part_at n.signs n.digits cs) digits_below)

-- a switch's cells within their ends can be stored
pub switch_stores : (n : ℕ) (cs : List ℕ) → RangeCells (Switch n) cs → storable (bits_of n) cs ≡ true
unfolding storable minus
switch_stores n cs h =
    if_false _ _ (if_eq 0 0 false _ refl)
    ∙ le-leb (shown_by (bits_of n) cs) (2 ^ bits_in n - 1) (omega (arith, shown_below (bits_of n) (bits_sound n) cs (switch_digits n cs h)))

-- ---- every kind

-- the settings fit the bytes: a counter's end two, an option's item numbers one
abbrev pub Fitting : Kind → Type 0
Fitting (Integer f) = Unit {0}
Fitting (Counter s) = s.max ≤ 65535
Fitting (Time long) = Unit {0}
Fitting (Date long) = Unit {0}
Fitting (Switch n) = Unit {0}
Fitting (Option n w) = n ≤ 256
Fitting Trigger = Unit {0}

-- the kinds that are not written in digits
abbrev pub Whole : Kind → Type 0
Whole (Integer f) = ⊥
Whole (Counter s) = Unit {0}
Whole (Time long) = Unit {0}
Whole (Date long) = Unit {0}
Whole (Switch n) = ⊥
Whole (Option n w) = Unit {0}
Whole Trigger = Unit {0}

-- one cell that is the same
one_same : (cs : List ℕ) (a : ℕ) → a ≡ get_or cs 0 0 → (i : ℕ) → i < 1 → get_or (a ∷ []) i 0 ≡ get_or cs i 0
one_same cs a p zero h = p
one_same cs a p (suc i) h = absurd (omega arith)

-- two or three cells that are the same
three_same : (cs : List ℕ) (n a b c : ℕ) → n ≤ 3 → a ≡ get_or cs 0 0 → b ≡ get_or cs 1 0 → (2 < n → c ≡ get_or cs 2 0)
    → (i : ℕ) → i < n → get_or (a ∷ b ∷ c ∷ []) i 0 ≡ get_or cs i 0
three_same cs n a b c l p q r zero h = p
three_same cs n a b c l p q r (suc zero) h = q
three_same cs n a b c l p q r (suc (suc zero)) h = r h
three_same cs n a b c l p q r (suc (suc (suc i))) h = absurd (omega arith)

-- no part of a time is past 59
time_part : (long : Bool) (cs : List ℕ) → RangeCells (Time long) cs → (i : ℕ) → i < (profile_of (Time long)).cells → get_or cs i 0 ≤ 59
unfolding cell_of
time_part long cs h i hi =
    if_ind (λ (c : Cell). get_or cs i 0 ≤ c.high → get_or cs i 0 ≤ 59) (i =? 0) (λ e l. omega arith) (λ e l. l) (h.within i hi).high

-- a part that is stored and loaded is the same
pub parts_again : (kind : Kind) (cs : List ℕ) → Whole kind → Fitting kind → RangeCells kind cs
    → (i : ℕ) → i < (profile_of kind).cells → get_or (cells_of kind (stored_in kind cs)) i 0 ≡ get_or cs i 0
unfolding profile_of cell_of cells_of stored_in when◌then◌else◌
parts_again (Integer f) cs t k h = absurd t
parts_again (Counter s) cs t k h = one_same cs _ (omega (arith, (h.within 0 (lit≤ tt)).high))
parts_again (Time true) cs t k h =
    let a : get_or cs 0 0 ≤ 59 = time_part true cs h 0 (lit≤ tt) in
    let b : get_or cs 1 0 ≤ 59 = time_part true cs h 1 (lit≤ tt) in
    let d : get_or cs 2 0 ≤ 59 = time_part true cs h 2 (lit≤ tt) in
    three_same cs 3 _ _ _ (lit≤ tt) (omega arith) (omega arith) (λ l. omega arith)
parts_again (Time false) cs t k h =
    let a : get_or cs 0 0 ≤ 59 = time_part false cs h 0 (lit≤ tt) in
    let b : get_or cs 1 0 ≤ 59 = time_part false cs h 1 (lit≤ tt) in
    three_same cs 2 _ _ _ (lit≤ tt) (omega arith) (omega arith) (λ l. absurd (omega arith))
parts_again (Date long) cs t k h =
    let m : get_or cs 1 0 ≤ 12 = (h.within 1 (lit≤ tt)).high in
    let e : get_or cs 2 0 ≤ end_of long cs = (h.within 2 (lit≤ tt)).high in
    let d : get_or cs 2 0 ≤ 31 = omega (arith, of_most long cs) in
    three_same cs 3 _ _ _ (lit≤ tt) (omega arith) (omega arith) (λ l. omega arith)
parts_again (Switch n) cs t k h = absurd t
parts_again (Option n w) cs t k h = one_same cs _ refl
parts_again Trigger cs t k h = one_same cs _ (omega (arith, (h.within 0 (lit≤ tt)).high))

-- so what is stored has its cells within their ends
parts_within : (kind : Kind) (cs : List ℕ) → Whole kind → Fitting kind → RangeCells kind cs
    → all_within (cell_of kind (cells_of kind (stored_in kind cs))) (cells_of kind (stored_in kind cs)) (profile_of kind).cells ≡ true
parts_within kind cs t k h = all_bool _ _ _ (same_range kind cs _ (parts_again kind cs t k h) h)

-- what ENTER stores is in range
pub range_stored : (kind : Kind) (cs : List ℕ) → Fitting kind → RangeCells kind cs → stores kind cs ≡ true → in_range kind (stored_in kind cs) ≡ true
unfolding in_range in_span stored_in stores
range_stored (Integer f) cs k h e = range_of_integer f _ ∙ spans_stored (numeral_of f) (format_sound f) cs e
range_stored (Counter s) cs k h e = and_i refl (parts_within (Counter s) cs tt k h)
range_stored (Time long) cs k h e = and_i refl (parts_within (Time long) cs tt k h)
range_stored (Date long) cs k h e = and_i refl (parts_within (Date long) cs tt k h)
range_stored (Switch n) cs k h e = range_of_switch n _ ∙ spans_stored (bits_of n) (bits_sound n) cs (switch_stores n cs h)
range_stored (Option n w) cs k h e = and_i refl (parts_within (Option n w) cs tt k h)
range_stored Trigger cs k h e = and_i refl (parts_within Trigger cs tt k h)

-- what ENTER stores fits the field's bytes
pub stored_fits : (kind : Kind) (cs : List ℕ) → Fitting kind → RangeCells kind cs → stores kind cs ≡ true
    → stored_in kind cs < 256 ^ (profile_of kind).bytes
unfolding stored_in stores profile_of cell_of when◌then◌else◌
stored_fits (Integer f) cs k h e = rw (← limit_bytes f) (digits_limit (numeral_of f) (format_sound f) cs e)
stored_fits (Counter s) cs k h e = omega arith
stored_fits (Time true) cs k h e =
    omega (arith, time_part true cs h 0 (lit≤ tt), time_part true cs h 1 (lit≤ tt), time_part true cs h 2 (lit≤ tt))
stored_fits (Time false) cs k h e = omega (arith, time_part false cs h 0 (lit≤ tt), time_part false cs h 1 (lit≤ tt))
stored_fits (Date true) cs k h e =
    omega (arith, (h.within 0 (lit≤ tt)).high, (h.within 1 (lit≤ tt)).high, (h.within 2 (lit≤ tt)).high, of_most true cs)
stored_fits (Date false) cs k h e =
    omega (arith, (h.within 0 (lit≤ tt)).high, (h.within 1 (lit≤ tt)).high, (h.within 2 (lit≤ tt)).high, of_most false cs)
stored_fits (Switch n) cs k h e = digits_limit (bits_of n) (bits_sound n) cs (switch_stores n cs h)
stored_fits (Option n w) cs k h e = omega (arith, (h.within 0 (lit≤ tt)).high)
stored_fits Trigger cs k h e = lit≤ tt

-- the bytes of a finished visit are the number that its cells stand for
pub finished_number : (kind : Kind) (w : Work) → Fitting kind → RangeCells kind w.cells → stores kind w.cells ≡ true
    → number_of (finished kind w) ≡ stored_in kind w.cells
unfolding number_of
finished_number kind w k h e = ap from_low (finished_bytes kind w) ∙ number_of_low (profile_of kind).bytes _ (stored_fits kind w.cells k h e)

-- and are in range: where the last part is chosen legal cells are
pub range_finished : (kind : Kind) (w : Work) → Fitting kind → LegalCells kind w → ((profile_of kind).parts ≡ true → w.at + 1 ≡ (profile_of kind).cells)
    → stores kind w.cells ≡ true → in_range kind (number_of (finished kind w)) ≡ true
range_finished kind w k h l e = let r = legal_range kind w l h in rw (finished_number kind w k r e) (range_stored kind w.cells k r e)
