-- There and back: a number in range has legal cells, which stand for that number, so that a visit without a change stores what was there.
use Prim.Native.Nat.{ℕ, ◌+◌, ◌-◌, ◌*◌, ◌/◌, ◌%◌, ◌^◌, ◌≤◌, ◌<◌}
use mathlib.Core.Path.{◌≡◌, refl, sym, ap, ◌∙◌}
use mathlib.Core.Bool.{Bool, true, false}
use mathlib.Core.List.{List}
use native.Mathlib.Omega.{arith}
use native.Mathlib.Nat.{mod-eq_of_lt}
use lib.ListN.{length, get_or}
use lib.Seq.{drop_at}
use lib.Dec.{lit≤}
use borrow.Author.Tests.{leb-true, leb-false, ltb-true, le-leb, lt-ltb, eqb-true, eqb-false}
use Rattle.laws.specs.Choice.{when◌then◌else◌, ◌=?◌, ◌≤?◌}
use Rattle.laws.specs.Overwrite.{fit}
use Rattle.laws.specs.Digits.{digits_of, low_first, from_low}
use Rattle.laws.proofs.Cases.{if_ind, if_true, if_false, if_le, if_gt, by_test, and_i, and_l, and_r}
use Rattle.laws.proofs.Lists.{drop_take}
use Rattle.laws.proofs.Overwriting.{fit_at, take_fit}
use Rattle.laws.proofs.Numerals.{number_of_digits, Below, length_low, low_of_number, low_below}
use Rattle.field.specs.Formats.{numeral_of, bits_of}
use Rattle.field.specs.Profiles.{profile_of}
use Rattle.field.specs.Values.{bytes_of, value_of, number_of, value_from}
use Rattle.field.specs.Cells.{spans, distance, sign_of, in_digits, shown_by, minus, storable, of_digits, cells_of, stored_in, in_span, stores, in_range, work_of, started, finished}
use Rattle.field.specs.Sound.{Sound}
use Rattle.field.specs.declared.numeral.Numeral.{Numeral}
use Rattle.field.specs.declared.kind.Kind.{Kind}
use Rattle.field.specs.declared.kind.Kind.TheVariants.{Integer, Counter, Time, Date, Switch, Option, Trigger}
use Rattle.field.specs.declared.work.Work.{Work}
use Rattle.field.specs.declared.value.Value.{Value}
use Rattle.field.proofs.Bounds.{format_sound, bits_sound, profile_bytes, profile_cells}
use Rattle.field.proofs.Legal.{Legal, all_true}
use Rattle.field.proofs.Rows.{range_legal, same_range}
use Rattle.field.proofs.Ranges.{front, length_front, length_cells, sign_at}

-- ---- numbers in digits

module _ (n : Numeral) (x : ℕ) where
  -- a number up to the highest shows itself
  pub distance_up : x ≤ n.above → distance n x ≡ x
  unfolding distance
  distance_up h = if_le x n.above _ _ h

  -- its sign is '+'
  pub sign_up : x ≤ n.above → sign_of n x ≡ 1
  unfolding sign_of
  sign_up h = if_le x n.above _ _ h

  -- and it is in range
  pub spans_up : x ≤ n.above → spans n x ≡ true
  unfolding spans
  spans_up h = if_le x n.above _ _ h

  -- one past it shows how far it is from the limit
  pub distance_down : n.above < x → distance n x ≡ n.limit - x
  unfolding distance
  distance_down h = if_gt x n.above _ _ h

  -- its sign is '-'
  pub sign_down : n.above < x → sign_of n x ≡ 0
  unfolding sign_of
  sign_down h = if_gt x n.above _ _ h

  -- and it is in range from the lowest on
  pub spans_down : n.above < x → n.limit - n.below ≤ x → x < n.limit → spans n x ≡ true
  unfolding spans
  spans_down h l r = if_gt x n.above _ _ h ∙ and_i (le-leb (n.limit - n.below) x l) (lt-ltb x n.limit r)

  -- a number in range is one or the other
  pub by_range : {A : Type 0} → spans n x ≡ true
      → (x ≤ n.above → A) → (n.above < x → n.limit - n.below ≤ x → x < n.limit → A) → A
  unfolding spans
  by_range {A} e up down = by_test (x ≤? n.above) (λ t. up (leb-true x n.above t)) is_down
    where
      is_down : x ≤? n.above ≡ false → A
      is_down t =
          let h = leb-false x n.above t in
          let d = rw (if_gt x n.above true _ h) at e in
          down h (leb-true (n.limit - n.below) x (and_l _ _ d)) (ltb-true x n.limit (and_r _ _ d))

module _ (n : Numeral) (s : Sound n) (x : ℕ) (e : spans n x ≡ true) where
  -- the digits can show a number in range
  distance_fits : distance n x < n.base ^ n.digits
  distance_fits =
      by_range n x e (λ h. rw (distance_up n x h) (omega (arith, s.above)))
      (λ h l r. rw (distance_down n x h) (omega (arith, s.below, s.apart)))

  -- the digits show how far it is from 0
  shown_back : shown_by n (fit 0 32 (in_digits n x)) ≡ distance n x
  unfolding shown_by in_digits
  shown_back =
      rw (
        ← drop_take n.signs n.digits (fit 0 32 (in_digits n x)),
        take_fit 0 32 (n.signs + n.digits) (in_digits n x) (length_cells n s x) s.cells,
        drop_at (front n x) (digits_of n.base n.digits (distance n x)) n.signs (length_front n s x),
      )
      (number_of_digits n.base n.digits (distance n x) (omega (arith, s.two)) distance_fits)

  -- the first cell is the sign, if there is one
  first_cell : (n.signs ≡ 0 → ⊥) → get_or (fit 0 32 (in_digits n x)) 0 0 ≡ sign_of n x
  first_cell h = fit_at 0 32 (in_digits n x) 0 (lit≤ tt) ∙ sign_at n s x 0 (omega arith)

  -- from 0 on the cells show '+'
  minus_up : x ≤ n.above → minus n (fit 0 32 (in_digits n x)) ≡ false
  unfolding minus
  minus_up h =
      if_ind (λ (t : Bool). t ≡ false) (n.signs =? 0) (λ q. refl)
      (λ q. rw (first_cell (eqb-false n.signs 0 q), sign_up n x h))

  -- below 0 they show '-'
  minus_down : n.above < x → n.limit - n.below ≤ x → x < n.limit → minus n (fit 0 32 (in_digits n x)) ≡ true
  unfolding minus
  minus_down h l r =
      if_ind (λ (t : Bool). t ≡ true) (n.signs =? 0) (λ q. absurd (omega (arith, s.plain (eqb-true n.signs 0 q))))
      (λ q. rw (first_cell (eqb-false n.signs 0 q), sign_down n x h))

  -- the cells of a number in range stand for it
  pub digits_back : of_digits n (fit 0 32 (in_digits n x)) ≡ x
  unfolding of_digits
  digits_back =
      by_range n x e (λ h. if_false _ _ (minus_up h) ∙ shown_back ∙ distance_up n x h)
      (λ h l r. let z : n.limit - (n.limit - x) ≡ x = omega arith in if_true _ _ (minus_down h l r) ∙ rw (shown_back, distance_down n x h, z) (mod-eq_of_lt r))

  -- and ENTER stores them
  pub digits_stored : storable n (fit 0 32 (in_digits n x)) ≡ true
  unfolding storable
  digits_stored =
      by_range n x e (λ h. if_false _ _ (minus_up h) ∙ rw (shown_back, distance_up n x h) (le-leb x n.above h))
      (λ h l r. if_true _ _ (minus_down h l r) ∙ rw (shown_back, distance_down n x h) (le-leb (n.limit - x) n.below (omega arith)))

-- ---- every kind

-- a time's number is made of its bytes
time_back : (long : Bool) (x : ℕ) → x < 256 ^ (when long then 3 else 2) → x % 256 + 256 * (x / 256 % 256) + (when long then 65536 * (when long then x / 65536 % 256 else 0) else 0) ≡ x
unfolding when◌then◌else◌
time_back true x h = omega arith
time_back false x h = omega arith

-- the cells of a number in range stand for that number
pub stored_back : (kind : Kind) (x : ℕ) → in_range kind x ≡ true → x < 256 ^ (profile_of kind).bytes → stored_in kind (work_of (cells_of kind x)).cells ≡ x
unfolding stored_in work_of cells_of in_range in_span profile_of fit
stored_back (Integer f) x e h = digits_back (numeral_of f) (format_sound f) x (and_l _ _ e)
stored_back (Counter s) x e h = omega arith
stored_back (Time long) x e h = time_back long x h
stored_back (Date long) x e h = omega arith
stored_back (Switch n) x e h = digits_back (bits_of n) (bits_sound n) x (and_l _ _ e)
stored_back (Option n w) x e h = refl
stored_back Trigger x e h = omega arith

-- and ENTER stores them
pub stores_back : (kind : Kind) (x : ℕ) → in_range kind x ≡ true → stores kind (work_of (cells_of kind x)).cells ≡ true
unfolding stores work_of cells_of in_range in_span
stores_back (Integer f) x e = digits_stored (numeral_of f) (format_sound f) x (and_l _ _ e)
stores_back (Counter s) x e = refl
stores_back (Time long) x e = refl
stores_back (Date long) x e = refl
stores_back (Switch n) x e = refl
stores_back (Option n w) x e = refl
stores_back Trigger x e = refl

-- a working copy has the cells that it was made of
pub work_at : (kind : Kind) (cs : List ℕ) (i : ℕ) → i < (profile_of kind).cells → get_or (work_of cs).cells i 0 ≡ get_or cs i 0
unfolding work_of
work_at kind cs i hi = fit_at 0 32 cs i (omega (arith, profile_cells kind))

-- a number in range loads to a legal working copy
pub loaded_legal : (kind : Kind) (x : ℕ) → 0 < (profile_of kind).cells → in_range kind x ≡ true → Legal kind (work_of (cells_of kind x))
unfolding work_of in_range
loaded_legal kind x p e = record {
  at = p;
  cells = range_legal kind (work_of (cells_of kind x))
      (same_range kind (cells_of kind x) _ (work_at kind (cells_of kind x)) (all_true _ _ _ (and_r _ _ e)));
}

-- a visit starts legal, whatever the sheet holds
pub started_legal : (kind : Kind) (v d : Value) → 0 < (profile_of kind).cells → in_range kind (number_of d) ≡ true → Legal kind (started kind v d)
unfolding started
started_legal kind v d p e =
    loaded_legal kind _ p (if_ind (λ (x : ℕ). in_range kind x ≡ true) (in_range kind (number_of v)) (λ q. q) (λ q. e))

-- ---- bytes

-- the bytes of a finished visit
pub finished_bytes : (kind : Kind) (w : Work) → bytes_of (finished kind w) ≡ low_first (profile_of kind).bytes (stored_in kind w.cells)
unfolding finished value_from
finished_bytes kind w =
    take_fit 0 4 (profile_of kind).bytes _ (length_low (profile_of kind).bytes (stored_in kind w.cells)) (profile_bytes kind)

-- they are as many as the field has
pub finished_length : (kind : Kind) (w : Work) → length (bytes_of (finished kind w)) ≡ (profile_of kind).bytes
finished_length kind w = rw (finished_bytes kind w) (length_low (profile_of kind).bytes (stored_in kind w.cells))

-- and they settle the value
pub finished_canonical : (kind : Kind) (w : Work) → finished kind w ≡ value_of (profile_of kind).bytes (bytes_of (finished kind w))
unfolding finished value_from
finished_canonical kind w =
    let e = finished_bytes kind w in ap (λ (bs : List ℕ). value_of (profile_of kind).bytes bs) (sym e)

-- a visit that changes nothing stores what was there
pub finished_back : (kind : Kind) (bs : List ℕ) (d : Value) → length bs ≡ (profile_of kind).bytes → Below 256 bs
    → in_range kind (number_of (value_of (profile_of kind).bytes bs)) ≡ true
    → finished kind (started kind (value_of (profile_of kind).bytes bs) d) ≡ value_of (profile_of kind).bytes bs
unfolding finished started value_from number_of
finished_back kind bs d l h e =
    let v : number_of (value_of (profile_of kind).bytes bs) ≡ from_low bs = ap from_low (take_fit 0 4 (profile_of kind).bytes bs l (profile_bytes kind)) in
    let r : in_range kind (from_low bs) ≡ true = rw v at e in
    let low : from_low bs < 256 ^ (profile_of kind).bytes = rw l at (low_below bs h) in
    rw (if_true _ _ e, v, stored_back kind (from_low bs) r low, ← l, low_of_number bs h)
