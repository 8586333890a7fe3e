-- Legal working copies: the chosen cell exists and every cell is within its ends.
use Prim.Native.Nat.{ℕ, zero, suc, ◌≤◌, ◌<◌}
use mathlib.Core.Path.{◌≡◌, refl, sym, ◌∙◌}
use mathlib.Core.Bool.{Bool, true, false≢true}
use mathlib.Core.List.{List}
use native.Mathlib.Omega.{arith}
use native.Mathlib.Decide.{ℕ_discrete}
use lib.ListN.{get_or}
use lib.Dec.{lit≤}
use borrow.Author.Tests.{leb-true, le-leb}
use Rattle.laws.specs.Choice.{when◌then◌else◌}
use Rattle.laws.proofs.Cases.{by_test, if_ind, and_i, and_l, and_r}
use Rattle.field.specs.Formats.{base_of}
use Rattle.field.specs.Profiles.{profile_of, ends, flag, digit, cell_of, held_to}
use Rattle.field.specs.Cells.{within, all_within, legal}
use Rattle.field.specs.declared.kind.Kind.{Kind}
use Rattle.field.specs.declared.kind.Kind.TheVariants.{Integer, Counter, Time, Date, Switch, Option, Trigger}
use Rattle.field.specs.declared.profile.Cell.{Cell}
use Rattle.field.specs.declared.work.Work.{Work}
use Rattle.field.proofs.Bounds.{base_ge}

-- a cell within its ends
pub record Within (c : Cell) (x : ℕ) : Type 0 where
  pub low : c.low ≤ x
  pub high : x ≤ c.high

-- each of n cells within the ends of its row
pub record AllWithin (row : ℕ → Cell) (cs : List ℕ) (n : ℕ) : Type 0 where
  pub within : (i : ℕ) → i < n → Within (row i) (get_or cs i 0)

-- the cells of a number in range, and those of a working copy
abbrev pub RangeCells : Kind → List ℕ → Type 0
RangeCells kind cs = AllWithin (cell_of kind cs) cs (profile_of kind).cells

abbrev pub LegalCells : Kind → Work → Type 0
LegalCells kind w = AllWithin (held_to kind w) w.cells (profile_of kind).cells

-- the chosen cell exists, and the cells are legal
pub record Legal (kind : Kind) (w : Work) : Type 0 where
  pub at : w.at < (profile_of kind).cells
  pub cells : LegalCells kind w

-- ---- the test and the fact

-- a cell that passes the test is within its ends
within_true : (c : Cell) (x : ℕ) → within c x ≡ true → Within c x
unfolding within
within_true c x e = record { low = leb-true c.low x (and_l _ _ e); high = leb-true x c.high (and_r _ _ e) }

-- and the other way
within_bool : (c : Cell) (x : ℕ) → Within c x → within c x ≡ true
unfolding within
within_bool c x h = and_i (le-leb c.low x h.low) (le-leb x c.high h.high)

module _ (row : ℕ → Cell) (cs : List ℕ) where
  -- the first cells, one by one
  each : (n : ℕ) → all_within row cs n ≡ true → (i : ℕ) → i < n → Within (row i) (get_or cs i 0)
  unfolding all_within
  each zero e i h = absurd (omega arith)
  each (suc n) e i h = go (ℕ_discrete i n) (λ l. each n (and_l _ _ e) i l)
    where
      go : Dec (i ≡ n) → (i < n → Within (row i) (get_or cs i 0)) → Within (row i) (get_or cs i 0)
      go (yes q) below = rw q (within_true (row n) (get_or cs n 0) (and_r _ _ e))
      go (no q) below = below (omega arith)

  -- cells that pass the test are within their ends
  pub all_true : (n : ℕ) → all_within row cs n ≡ true → AllWithin row cs n
  all_true n e = record { within = each n e }

  -- and the other way
  pub all_bool : (n : ℕ) → AllWithin row cs n → all_within row cs n ≡ true
  unfolding all_within
  all_bool zero h = refl
  all_bool (suc n) h =
      and_i (all_bool n (record { within = λ i l. h.within i (omega arith) })) (within_bool (row n) (get_or cs n 0) (h.within n (omega arith)))

  -- a test that passes where each cell does
  pub all_test : (n : ℕ) (t : Bool) → (t ≡ true → (i : ℕ) → i < n → within (row i) (get_or cs i 0) ≡ true)
      → (((i : ℕ) → i < n → within (row i) (get_or cs i 0) ≡ true) → t ≡ true) → t ≡ all_within row cs n
  all_test n t f g =
      by_test (all_within row cs n) (λ e. g (λ i l. within_bool (row i) (get_or cs i 0) (each n e i l)) ∙ sym e)
      (λ e. by_test t
      (λ p. absurd (false≢true (sym e ∙ all_bool n (record { within = λ i l. within_true (row i) (get_or cs i 0) (f p i l) }))))
      (λ p. p ∙ sym e))

-- cells that pass the test are legal
pub legal_true : (kind : Kind) (w : Work) → legal kind w ≡ true → LegalCells kind w
unfolding legal
legal_true kind w e = all_true (held_to kind w) w.cells (profile_of kind).cells e

-- legal cells pass the test
pub legal_bool : (kind : Kind) (w : Work) → LegalCells kind w → legal kind w ≡ true
unfolding legal
legal_bool kind w h = all_bool (held_to kind w) w.cells (profile_of kind).cells h

-- ---- rows of the table

-- a cell that is set has a low end below its high end, and a digit cell holds 0 to 9
pub record Sane (c : Cell) : Type 0 where
  pub sets : c.sets ≡ true → c.low ≤ c.high
  pub typed : c.typed ≡ true → (c.low ≤ 0) × (9 ≤ c.high)

-- a row of ends, a sign or bit, a digit, a choice of rows
ends_sane : (l h s : ℕ) → Sane (ends l h s)
ends_sane l h s = record { sets = λ e. absurd (false≢true e); typed = λ e. absurd (false≢true e) }

flag_sane : Sane flag
flag_sane = record { sets = λ e. lit≤ tt; typed = λ e. absurd (false≢true e) }

digit_sane : (b : ℕ) → 10 ≤ b → Sane (digit b)
digit_sane b h = record { sets = λ e. omega arith; typed = λ e. (lit≤ tt, omega arith) }

if_sane : (t : Bool) {x y : Cell} → Sane x → Sane y → Sane (when t then x else y)
if_sane t p q = if_ind (λ (c : Cell). Sane c) t (λ e. p) (λ e. q)

-- every row of the table is so
pub sane : (kind : Kind) (cs : List ℕ) (i : ℕ) → Sane (cell_of kind cs i)
unfolding cell_of
sane (Integer f) cs i = if_sane _ flag_sane (digit_sane (base_of f) (base_ge f))
sane (Counter s) cs i = ends_sane _ _ _
sane (Time long) cs i = if_sane _ (ends_sane _ _ _) (ends_sane _ _ _)
sane (Date long) cs i = if_sane _ (ends_sane _ _ _) (if_sane _ (ends_sane _ _ _) (ends_sane _ _ _))
sane (Switch n) cs i = flag_sane
sane (Option n w) cs i = ends_sane _ _ _
sane Trigger cs i = ends_sane _ _ _

-- a row that lies inside another
pub record Inside (own c : Cell) : Type 0 where
  pub low : own.low ≤ c.low
  pub high : c.high ≤ own.high
  pub sets : c.sets ≡ true → c.low ≤ c.high

-- the table's row in itself
pub own_row : (kind : Kind) (cs : List ℕ) (i : ℕ) → Inside (cell_of kind cs i) (cell_of kind cs i)
own_row kind cs i = record { low = omega arith; high = omega arith; sets = (sane kind cs i).sets }
