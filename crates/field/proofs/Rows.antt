-- The rows that a working copy's cells are held to: where they are the table's own, and what they take from the working copy, which is a date's
-- month end alone. So cells stay legal where the chosen one is set, where another is chosen, and where ENTER lowers the next part to its high end.
use Prim.Native.Nat.{ℕ, zero, suc, ◌+◌, ◌≤◌, ◌<◌, min}
use mathlib.Core.Path.{◌≡◌, refl, sym, ◌∙◌}
use mathlib.Core.Bool.{Bool, true, false, false≢true}
use mathlib.Core.List.{List}
use native.Mathlib.Omega.{arith}
use native.Mathlib.Decide.{ℕ_discrete, dec_lt}
use lib.ListN.{length, get_or, set, get_or-eq_default}
use lib.Seq.{get_or-set_same, get_or-set_other, set_out}
use lib.Dec.{lit≤}
use borrow.Author.Tests.{ltb-true, ltb-false, eqb-true, lt-ltb, le-ltb}
use Rattle.laws.specs.Choice.{when◌then◌else◌, ◌and◌, ◌=?◌, ◌<?◌}
use Rattle.laws.proofs.Cases.{if_ind, if_false, by_test, and_l}
use Rattle.field.specs.Calendar.{full_year}
use Rattle.field.specs.Profiles.{profile_of, day_cell, end_of, cell_of, open_day, held_to}
use Rattle.field.specs.declared.kind.Kind.{Kind}
use Rattle.field.specs.declared.kind.Kind.TheVariants.{Integer, Counter, Time, Date, Switch, Option, Trigger}
use Rattle.field.specs.declared.profile.Cell.{Cell}
use Rattle.field.specs.declared.work.Work.{Work}
use Rattle.field.proofs.Calendars.{end_most, end_least}
use Rattle.field.proofs.Legal.{Within, RangeCells, LegalCells}

-- ---- the row that a cell is held to, and its own

-- the chosen cell is no day whose part is not chosen
open_chosen : (kind : Kind) (w : Work) → open_day kind w w.at ≡ false
unfolding open_day ◌and◌
open_chosen (Integer f) w = refl
open_chosen (Counter s) w = refl
open_chosen (Time long) w = refl
open_chosen (Date long) w = by_test (w.at =? 2) (λ e. let z = eqb-true w.at 2 e in rw (e, le-ltb w.at 2 (omega arith))) (λ e. rw e)
open_chosen (Switch n) w = refl
open_chosen (Option n o) w = refl
open_chosen Trigger w = refl

-- and in the last part there is none
open_last : (kind : Kind) (w : Work) → ((profile_of kind).parts ≡ true → w.at + 1 ≡ (profile_of kind).cells) → (i : ℕ) → open_day kind w i ≡ false
unfolding profile_of open_day ◌and◌
open_last (Integer f) w l i = refl
open_last (Counter s) w l i = refl
open_last (Time long) w l i = refl
open_last (Date long) w l i = by_test (i =? 2) (λ e. rw (e, le-ltb w.at 2 (omega (arith, l refl)))) (λ e. rw e)
open_last (Switch n) w l i = refl
open_last (Option n o) w l i = refl
open_last Trigger w l i = refl

-- there a cell is held to its own row
pub held_chosen : (kind : Kind) (w : Work) → held_to kind w w.at ≡ cell_of kind w.cells w.at
unfolding held_to
held_chosen kind w = if_false _ _ (open_chosen kind w)

held_last : (kind : Kind) (w : Work) → ((profile_of kind).parts ≡ true → w.at + 1 ≡ (profile_of kind).cells) → (i : ℕ) → held_to kind w i ≡ cell_of kind w.cells i
unfolding held_to
held_last kind w l i = if_false _ _ (open_last kind w l i)

-- no month has more than 31 days
pub of_most : (long : Bool) (cs : List ℕ) → end_of long cs ≤ 31
unfolding end_of
of_most long cs = end_most _ _

-- a row with the same low end and a high end that is no lower
record Around (own held : Cell) : Type 0 where
  low : held.low ≡ own.low
  high : own.high ≤ held.high

open_around : (kind : Kind) (w : Work) (i : ℕ) → open_day kind w i ≡ true → Around (cell_of kind w.cells i) (day_cell 31)
unfolding open_day cell_of when◌then◌else◌
open_around (Integer f) w i e = absurd (false≢true e)
open_around (Counter s) w i e = absurd (false≢true e)
open_around (Time long) w i e = absurd (false≢true e)
open_around (Date long) w i e = let z = eqb-true i 2 (and_l _ _ e) in rw z (record { low = refl; high = of_most long w.cells })
open_around (Switch n) w i e = absurd (false≢true e)
open_around (Option n o) w i e = absurd (false≢true e)
open_around Trigger w i e = absurd (false≢true e)

-- such is the row that a cell is held to
around : (kind : Kind) (w : Work) (i : ℕ) → Around (cell_of kind w.cells i) (held_to kind w i)
unfolding held_to
around kind w i = if_ind (Around (cell_of kind w.cells i)) (open_day kind w i) (open_around kind w i) (λ _. record { low = refl; high = omega arith })

-- ---- rows of two working copies

-- a kind without parts takes nothing from the working copy
row_plain : (kind : Kind) (w v : Work) → (profile_of kind).parts ≡ false → (i : ℕ) → held_to kind v i ≡ held_to kind w i
unfolding profile_of held_to open_day cell_of when◌then◌else◌
row_plain (Integer f) w v e i = refl
row_plain (Counter s) w v e i = refl
row_plain (Time long) w v e i = refl
row_plain (Date long) w v e i = absurd (false≢true (sym e))
row_plain (Switch n) w v e i = refl
row_plain (Option n o) w v e i = refl
row_plain Trigger w v e i = refl

-- any other no more than a date's day, from its part on
row_by_day : (kind : Kind) (w v : Work) (i : ℕ) → i < (profile_of kind).cells → ((long : Bool) → i ≡ 2 → held_to (Date long) v 2 ≡ held_to (Date long) w 2)
    → held_to kind v i ≡ held_to kind w i
unfolding profile_of held_to open_day cell_of ◌and◌ when◌then◌else◌
row_by_day (Integer f) w v i h e = refl
row_by_day (Counter s) w v i h e = refl
row_by_day (Time long) w v i h e = refl
row_by_day (Date long) w v zero h e = refl
row_by_day (Date long) w v (suc zero) h e = refl
row_by_day (Date long) w v (suc (suc zero)) h e = e long refl
row_by_day (Date long) w v (suc (suc (suc i))) h e = absurd (omega arith)
row_by_day (Switch n) w v i h e = refl
row_by_day (Option n o) w v i h e = refl
row_by_day Trigger w v i h e = refl

-- which is 31 before, and its month's end then
day_early : (long : Bool) (w : Work) → w.at < 2 → held_to (Date long) w 2 ≡ day_cell 31
unfolding held_to open_day cell_of ◌and◌ when◌then◌else◌
day_early long w h = rw (lt-ltb w.at 2 h)

day_late : (long : Bool) (w : Work) → 2 ≤ w.at → held_to (Date long) w 2 ≡ day_cell (end_of long w.cells)
unfolding held_to open_day cell_of ◌and◌ when◌then◌else◌
day_late long w h = rw (le-ltb w.at 2 h)

-- ---- the chosen cell set, another chosen

-- the working copy with its chosen cell set, and with another chosen
abbrev pub set_to : Work → ℕ → Work
set_to w x = record { cells = set w.cells w.at x; at = w.at }

abbrev pub choosing : Work → ℕ → Work
choosing w i = record { cells = w.cells; at = i }

module _ (kind : Kind) (w : Work) where
  -- setting the chosen cell changes no row: before the day part a day is held to 31, and in it year and month stay
  set_day : (x : ℕ) (long : Bool) → held_to (Date long) (set_to w x) 2 ≡ held_to (Date long) w 2
  unfolding end_of
  set_day x long = by_test (w.at <? 2) early late
    where
      early : w.at <? 2 ≡ true → held_to (Date long) (set_to w x) 2 ≡ held_to (Date long) w 2
      early e = let h = ltb-true w.at 2 e in day_early long (set_to w x) h ∙ sym (day_early long w h)

      late : w.at <? 2 ≡ false → held_to (Date long) (set_to w x) 2 ≡ held_to (Date long) w 2
      late e =
          let h = ltb-false w.at 2 e in
          day_late long (set_to w x) h
          ∙ rw (get_or-set_other w.cells w.at 0 x 0 (λ q. omega arith), get_or-set_other w.cells w.at 1 x 0 (λ q. omega arith)) (sym (day_late long w h))

  set_row : (x i : ℕ) → i < (profile_of kind).cells → held_to kind (set_to w x) i ≡ held_to kind w i
  set_row x i h = row_by_day kind w (set_to w x) i h (λ long _. set_day x long)

  -- cells that are legal but for the chosen one are legal once that is set within its ends; one that is not there is 0
  set_legal_but : (x : ℕ) → ((i : ℕ) → i < (profile_of kind).cells → (i ≡ w.at → ⊥) → Within (held_to kind w i) (get_or w.cells i 0))
      → Within (held_to kind w w.at) x → (length w.cells ≤ w.at → Within (held_to kind w w.at) (get_or w.cells w.at 0)) → LegalCells kind (set_to w x)
  set_legal_but x h hx out = record { within = λ i hi. rw (set_row x i hi) (go i hi (ℕ_discrete i w.at) (dec_lt w.at (length w.cells))) }
    where
      go : (i : ℕ) → i < (profile_of kind).cells → Dec (i ≡ w.at) → Dec (w.at < length w.cells) → Within (held_to kind w i) (get_or (set w.cells w.at x) i 0)
      go i hi (yes e) (yes l) = rw (e, get_or-set_same w.cells w.at x 0 l) hx
      go i hi (yes e) (no l) = let o : length w.cells ≤ w.at = omega arith in rw (e, set_out w.cells w.at x o) (out o)
      go i hi (no n) _ = rw (get_or-set_other w.cells w.at i x 0 n) (h i hi n)

  -- a legal working copy stays legal
  pub set_legal : (x : ℕ) → LegalCells kind w → w.at < (profile_of kind).cells → Within (cell_of kind w.cells w.at) x → LegalCells kind (set_to w x)
  set_legal x h a hx = set_legal_but x (λ i hi n. h.within i hi) (rw (held_chosen kind w) hx) (λ _. h.within w.at a)

  -- choosing another cell changes no row where there are no parts
  pub choose_legal : (j : ℕ) → (profile_of kind).parts ≡ false → LegalCells kind w → LegalCells kind (choosing w j)
  choose_legal j p h = record { within = λ i hi. rw (row_plain kind w (choosing w j) p i) (h.within i hi) }

-- ---- ENTER goes to the next part, lowered to its high end

-- a part's ends are in order
part_ends : (kind : Kind) (cs : List ℕ) → (profile_of kind).parts ≡ true → (i : ℕ) → (cell_of kind cs i).low ≤ (cell_of kind cs i).high
unfolding profile_of cell_of end_of
part_ends (Integer f) cs e i = absurd (false≢true e)
part_ends (Counter s) cs e i = absurd (false≢true e)
part_ends (Time long) cs e i = if_ind Ordered (i =? 0) (λ _. lit≤ tt) (λ _. lit≤ tt)
  where
    Ordered : Cell → Type 0
    Ordered c = c.low ≤ c.high
part_ends (Date long) cs e i =
    if_ind Ordered (i =? 0) (λ _. omega arith) (λ _. if_ind Ordered (i =? 1) (λ _. lit≤ tt) (λ _. omega (arith, end_least (full_year long (get_or cs 0 0)) (get_or cs 1 0))))
  where
    Ordered : Cell → Type 0
    Ordered c = c.low ≤ c.high
part_ends (Switch n) cs e i = absurd (false≢true e)
part_ends (Option n w) cs e i = absurd (false≢true e)
part_ends Trigger cs e i = absurd (false≢true e)

module _ (w : Work) where
  -- only the next part may have another row
  next_day : (long : Bool) → (2 ≡ w.at + 1 → ⊥) → held_to (Date long) (choosing w (w.at + 1)) 2 ≡ held_to (Date long) w 2
  next_day long n = by_test (w.at <? 2) early late
    where
      early : w.at <? 2 ≡ true → held_to (Date long) (choosing w (w.at + 1)) 2 ≡ held_to (Date long) w 2
      early e =
          let h = ltb-true w.at 2 e in
          let l : w.at + 1 < 2 = at_most (ℕ_discrete 2 (w.at + 1)) in
          day_early long (choosing w (w.at + 1)) l ∙ sym (day_early long w h)
        where
          at_most : Dec (2 ≡ w.at + 1) → w.at + 1 < 2
          at_most (yes q) = absurd (n q)
          at_most (no q) = omega (arith, ltb-true w.at 2 e)

      late : w.at <? 2 ≡ false → held_to (Date long) (choosing w (w.at + 1)) 2 ≡ held_to (Date long) w 2
      late e = let h = ltb-false w.at 2 e in day_late long (choosing w (w.at + 1)) (omega arith) ∙ sym (day_late long w h)

  next_row : (kind : Kind) (i : ℕ) → i < (profile_of kind).cells → (i ≡ w.at + 1 → ⊥) → held_to kind (choosing w (w.at + 1)) i ≡ held_to kind w i
  next_row kind i h n = row_by_day kind w (choosing w (w.at + 1)) i h (λ long z. next_day long (λ q. n (z ∙ q)))

module _ (kind : Kind) (w : Work) (h : LegalCells kind w) (p : (profile_of kind).parts ≡ true) (l : w.at + 1 < (profile_of kind).cells) where
  -- the next part chosen, its value and its row
  abbrev next : Work
  next = choosing w (w.at + 1)

  abbrev part : ℕ
  part = get_or w.cells (w.at + 1) 0

  abbrev row : Cell
  row = cell_of kind w.cells (w.at + 1)

  lowered_within : Within row (min part row.high)
  lowered_within = record { low = omega (arith, (h.within (w.at + 1) l).low, (around kind w (w.at + 1)).low, part_ends kind w.cells p (w.at + 1)); high = omega arith }

  -- a part that is not there is 0
  none_within : length w.cells ≤ w.at + 1 → Within row part
  none_within o = let z : part ≡ 0 = get_or-eq_default w.cells 0 o in record { low = omega (arith, lowered_within.low); high = omega arith }

  -- the cells are legal with it
  pub next_legal : LegalCells kind (set_to next (min part row.high))
  next_legal =
      set_legal_but kind next (min part row.high) (λ i hi n. rw (next_row w kind i hi n) (h.within i hi)) (rw (held_chosen kind next) lowered_within)
      (λ o. rw (held_chosen kind next) (none_within o))

-- ---- working copies and ranges

-- cells that are in range are legal, whichever is chosen
pub range_legal : (kind : Kind) (w : Work) → RangeCells kind w.cells → LegalCells kind w
range_legal kind w h = record {
  within = λ i hi. record { low = rw (around kind w i).low (h.within i hi).low; high = omega (arith, (h.within i hi).high, (around kind w i).high) };
}

-- and where the last part is chosen legal cells are in range
pub legal_range : (kind : Kind) (w : Work) → ((profile_of kind).parts ≡ true → w.at + 1 ≡ (profile_of kind).cells) → LegalCells kind w → RangeCells kind w.cells
legal_range kind w l h = record { within = λ i hi. rw (sym (held_last kind w l i)) (h.within i hi) }

-- cells that are the same are in range where they were
pub same_range : (kind : Kind) (cs ds : List ℕ) → ((i : ℕ) → i < (profile_of kind).cells → get_or ds i 0 ≡ get_or cs i 0) → RangeCells kind cs → RangeCells kind ds
unfolding profile_of cell_of end_of
same_range kind cs ds e h = record { within = λ i hi. rw (same kind e i, e i hi) (h.within i hi) }
  where
    same : (k : Kind) → ((i : ℕ) → i < (profile_of k).cells → get_or ds i 0 ≡ get_or cs i 0) → (i : ℕ) → cell_of k ds i ≡ cell_of k cs i
    same (Integer f) e i = refl
    same (Counter s) e i = refl
    same (Time long) e i = refl
    same (Date long) e i = rw (e 0 (lit≤ tt), e 1 (lit≤ tt))
    same (Switch n) e i = refl
    same (Option n w) e i = refl
    same Trigger e i = refl
