-- Dates in a visit (02, No. 3). ENTER leaves cells that are in range as they are; after ENTER from the month the day is the smaller of what it was
-- and the month's last; and what the last ENTER stores is a real date.
use Prim.Native.Nat.{ℕ, ◌+◌, ◌≤◌, ◌<◌, min}
use mathlib.Core.Path.{◌≡◌, refl, ap}
use mathlib.Core.Bool.{Bool, true, false}
use mathlib.Core.List.{List}
use native.Mathlib.Omega.{arith}
use native.Mathlib.Decide.{dec_lt}
use lib.ListN.{length, get_or, set, get_or-eq_default}
use lib.Seq.{get_or-set_same, get_or-set_other, set_out, set-get_or}
use lib.Dec.{lit≤}
use Rattle.laws.specs.Choice.{when◌then◌else◌, ◌and◌}
use Rattle.laws.proofs.Cases.{if_ind, if_false}
use Rattle.field.specs.Calendar.{RealDate}
use Rattle.field.specs.Profiles.{profile_of, end_of, cell_of, open_day, held_to}
use Rattle.field.specs.Values.{number_of}
use Rattle.field.specs.Cells.{stores, finished}
use Rattle.keys.specs.Keys.{next_part, done, choosing, part_after, capped, enter_key}
use Rattle.field.specs.declared.kind.Kind.{Kind}
use Rattle.field.specs.declared.kind.Kind.TheVariants.{Date}
use Rattle.field.specs.declared.work.Work.{Work}
use Rattle.keys.specs.declared.press.Pressed.{Pressed}
use Rattle.keys.specs.declared.press.Outcome.TheVariants.{NextPart, Done}
use Rattle.field.proofs.Legal.{RangeCells, LegalCells, Legal}
use Rattle.field.proofs.Entered.{range_finished}
use Rattle.field.proofs.Dates.{year_in, month_in, day_in, range_real}
use Rattle.keys.proofs.Parts.{part_next}
use Rattle.keys.proofs.Outcomes.{Facts, enter_says, passed_last}

-- cells with a part chosen
abbrev pub part : List ℕ → ℕ → Work
part cs i = record { cells = cs; at = i }

-- ---- ENTER alone

-- a result with the cells as they were
record Same (w : Work) (r : Pressed) : Type 0 where
  cells : r.work.cells ≡ w.cells

-- a part that is no higher than its high end is as it was
capped_same : (kind : Kind) (w : Work) → get_or w.cells (w.at + 1) 0 ≤ (cell_of kind w.cells (w.at + 1)).high
    → (capped kind (choosing w (w.at + 1))).cells ≡ w.cells
unfolding capped
capped_same kind w h =
    let e : min (get_or w.cells (w.at + 1) 0) (cell_of kind w.cells (w.at + 1)).high ≡ get_or w.cells (w.at + 1) 0 = omega arith in
    rw e (set-get_or w.cells (w.at + 1) 0)

-- in a legal working copy such is every part but a day that is not chosen yet
pub other_same : (kind : Kind) (w : Work) → LegalCells kind w → w.at + 1 < (profile_of kind).cells → open_day kind w (w.at + 1) ≡ false
    → (capped kind (choosing w (w.at + 1))).cells ≡ w.cells
unfolding held_to
other_same kind w h l o = capped_same kind w (rw (if_false _ _ o) at (h.within (w.at + 1) l)).high

-- and ENTER leaves cells in range, for every kind: ENTER alone keeps the date
pub enter_same : (kind : Kind) (w : Work) → RangeCells kind w.cells → (enter_key kind w).work.cells ≡ w.cells
unfolding enter_key
enter_same kind w h =
    (if_ind (Same w) _ (λ _. record { cells = refl })
    (λ _. if_ind (Same w) _ (λ p. record { cells = capped_same kind w (h.within (w.at + 1) (part_next (profile_of kind) w p)).high })
    (λ _. if_ind (Same w) _ (λ _. record { cells = refl }) (λ _. record { cells = refl })))).cells

-- three ENTERs go through a real date's parts and finish, with its cells as they were; and those store it back (field's `Trip.finished-back`)
pub date_enters : (long : Bool) (cs : List ℕ) → RangeCells (Date long) cs
    → (enter_key (Date long) (part cs 0) ≡ next_part (part cs 1))
    × (enter_key (Date long) (part cs 1) ≡ next_part (part cs 2))
    × (enter_key (Date long) (part cs 2) ≡ done (part cs 2))
unfolding enter_key part_after capped profile_of stores ◌and◌ when◌then◌else◌
date_enters long cs h = (on 0 (lit≤ tt), on 1 (lit≤ tt), refl)
  where
    on : (i : ℕ) → i + 1 < 3 → next_part (capped (Date long) (part cs (i + 1))) ≡ next_part (part cs (i + 1))
    on i l = ap (λ (ds : List ℕ). next_part (part ds (i + 1))) (capped_same (Date long) (part cs i) (h.within (i + 1) l).high)

-- ---- ENTER from the month

-- what it makes of a date
pub record MonthEntered (long : Bool) (cs : List ℕ) (r : Pressed) : Type 0 where
  pub taken : r.outcome ≡ NextPart
  pub chosen : r.work.at ≡ 2
  pub year : get_or r.work.cells 0 0 ≡ get_or cs 0 0
  pub month : get_or r.work.cells 1 0 ≡ get_or cs 1 0
  pub day : get_or r.work.cells 2 0 ≡ min (get_or cs 2 0) (end_of long cs)

-- a cell that is set to at most what it was; one that is not there is 0
set_least : (cs : List ℕ) (i x : ℕ) → get_or (set cs i (min (get_or cs i 0) x)) i 0 ≡ min (get_or cs i 0) x
set_least cs i x = go (dec_lt i (length cs))
  where
    go : Dec (i < length cs) → get_or (set cs i (min (get_or cs i 0) x)) i 0 ≡ min (get_or cs i 0) x
    go (yes l) = get_or-set_same cs i _ 0 l
    go (no l) =
        let o : length cs ≤ i = omega arith in
        let z : get_or cs i 0 ≡ 0 = get_or-eq_default cs 0 o in
        rw (set_out cs i (min (get_or cs i 0) x) o) (omega arith)

pub month_entered : (long : Bool) (cs : List ℕ) → MonthEntered long cs (enter_key (Date long) (part cs 1))
unfolding enter_key part_after capped profile_of cell_of ◌and◌ when◌then◌else◌
month_entered long cs = record {
  taken = refl;
  chosen = refl;
  year = get_or-set_other cs 2 0 _ 0 (λ e. omega arith);
  month = get_or-set_other cs 2 1 _ 0 (λ e. omega arith);
  day = set_least cs 2 (end_of long cs);
}

-- ---- the last ENTER

-- it comes in the last part
done_last : (kind : Kind) (w : Work) → Legal kind w → (enter_key kind w).outcome ≡ Done
    → (stores kind w.cells ≡ true) × ((profile_of kind).parts ≡ true → w.at + 1 ≡ (profile_of kind).cells)
done_last kind w h e = let f : Facts true kind w (enter_key kind w).work Done = rw e at (enter_says kind w).facts in (f.4, passed_last kind w h f.3)

-- what it stores is a real date
pub date_stored : (long : Bool) (w : Work) → Legal (Date long) w → (enter_key (Date long) w).outcome ≡ Done
    → let x = number_of (finished (Date long) w) in RealDate long (year_in x) (month_in x) (day_in x)
date_stored long w h e =
    let d = done_last (Date long) w h e in range_real long _ (range_finished (Date long) w tt h.cells d.1 d.0)
