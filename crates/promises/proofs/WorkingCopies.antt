-- The working copy of a visit: a component that reads without fault has a cell and a default in range, so that its visit starts legal;
-- and every key keeps the copy legal, with as many cells as it had.
use Prim.Native.Nat.{ℕ, ◌≤◌, ◌<◌}
use mathlib.Core.Path.{◌≡◌, refl}
use mathlib.Core.Bool.{Bool, true, false}
use mathlib.Core.List.{List}
use native.Mathlib.Omega.{arith}
use lib.ListN.{length, length-set}
use borrow.Author.Tests.{leb-true, lt-ltb}
use Rattle.laws.specs.Choice.{when◌then◌else◌, ◌=?◌, ◌≤?◌}
use Rattle.laws.proofs.Cases.{if_ind, if_min, and_i, and_l, and_r}
use Rattle.laws.proofs.Overwriting.{length_fit}
use Rattle.field.specs.Formats.{format_of, digits_in, bits_in}
use Rattle.field.specs.Profiles.{profile_of}
use Rattle.field.specs.Values.{number_of}
use Rattle.field.specs.Cells.{in_range, work_of, started}
use Rattle.field.specs.Settings.{kind_fits, settings_fit}
use Rattle.field.specs.Sheet.{begun}
use Rattle.keys.specs.Keys as key
use Rattle.field.specs.declared.kind.Format.{Format}
use Rattle.field.specs.declared.kind.Kind.{Kind}
use Rattle.field.specs.declared.kind.Kind.TheVariants.{Integer, Counter, Time, Date, Switch, Option, Trigger}
use Rattle.field.specs.declared.kind.CounterSettings.{CounterSettings}
use Rattle.field.specs.declared.record.Field.{Field}
use Rattle.field.specs.declared.work.Work.{Work}
use Rattle.keys.specs.declared.press.Pressed.{Pressed}
use Rattle.keys.specs.declared.press.Outcome.{Outcome}
use Rattle.field.proofs.Legal.{Legal, legal_bool}
use Rattle.field.proofs.Ranges.{range_of_trigger}
use Rattle.keys.proofs.Kept.{up_legal, down_legal, left_legal, right_legal, digit_legal, enter_legal}
use Rattle.field.proofs.Trip.{started_legal}
use Rattle.std.specs.Prelude.{Some, None}
use Rattle.cmf.specs.Refusals.{refusal_number}
use Rattle.cmf.specs.declared.refusal.Refusal.TheVariants as fault
use Rattle.cmf.specs.Readers.{kind_at, field_by, component_at}
use Rattle.cmf.specs.declared.component.Component.{Component}
use Rattle.session.specs.Events.{up, down, left, right, enter, last_digit_key}
use Rattle.session.specs.Fits.{work_fits}
use Rattle.session.specs.Visits.{pressed}
use Rattle.journal.proofs.Components.{by_reading}

-- ---- fields that can be visited

-- a format with a digit cell
record Digited (f : Format) : Type 0 where
  digit : 1 ≤ digits_in f

-- a choice of formats, and a format that states its digits
by_digited : (t : Bool) {x y : Format} → (t ≡ true → Digited x) → (t ≡ false → Digited y) → Digited (when t then x else y)
by_digited t f g = if_ind Digited t f g

has_digits : (f : Format) → 1 ≤ f.digits → Digited f
unfolding digits_in
has_digits f h = record { digit = if_min _ h (omega arith) }

-- every format of section 7
format_digited : (code : ℕ) → Digited (format_of code)
unfolding format_of
format_digited code =
    let two : 1 ≤ 2 = omega arith in
    let three : 1 ≤ 3 = omega arith in
    let four : 1 ≤ 4 = omega arith in
    let five : 1 ≤ 5 = omega arith in
    search (by_digited, has_digits) depth 24

-- a kind that has a cell where its settings are good
record Celled (k : Kind) : Type 0 where
  cell : kind_fits k ≡ true → 0 < (profile_of k).cells

-- a choice of kinds, and each kind
by_celled : (t : Bool) {x y : Kind} → (t ≡ true → Celled x) → (t ≡ false → Celled y) → Celled (when t then x else y)
by_celled t f g = if_ind Celled t f g

integer_celled : (code : ℕ) → Celled (Integer (format_of code))
unfolding profile_of
integer_celled code = record { cell = λ _. omega (arith, (format_digited code).digit) }

switch_celled : (n : ℕ) → Celled (Switch n)
unfolding profile_of kind_fits bits_in
switch_celled n = record { cell = λ h. if_min _ (leb-true 1 n (and_l _ _ h)) (omega arith) }

counter_celled : (s : CounterSettings) → Celled (Counter s)
unfolding profile_of
counter_celled s = record { cell = λ _. omega arith }

time_celled : (long : Bool) → Celled (Time long)
unfolding profile_of
time_celled long = record { cell = λ _. if_min long (omega arith) (omega arith) }

date_celled : (long : Bool) → Celled (Date long)
unfolding profile_of
date_celled long = record { cell = λ _. omega arith }

option_celled : (n w : ℕ) → Celled (Option n w)
unfolding profile_of
option_celled n w = record { cell = λ _. omega arith }

trigger_celled : Celled Trigger
unfolding profile_of
trigger_celled = record { cell = λ _. omega arith }

-- every kind that an image gives
kind_celled : (im : List ℕ) (at code : ℕ) → Celled (kind_at im at code)
unfolding kind_at
kind_celled im at code =
    search (by_celled, integer_celled, switch_celled, counter_celled, time_celled, date_celled, option_celled, trigger_celled) depth 20

-- a field that can be visited: it has a cell, and its default is in range
pub record Ready (f : Field) : Type 0 where
  pub cell : 0 < (profile_of f.kind).cells
  pub default : in_range f.kind (number_of f.default) ≡ true

-- settings are tested where a component reads without fault
no_fault : (t : Bool) → refusal_number (when t then None else Some fault.Setting) ≡ 0 → t ≡ true
unfolding when◌then◌else◌
no_fault true h = refl
no_fault false h = absurd (omega arith)

-- good settings make such a field
settings_ready : (im : List ℕ) (p code : ℕ) → settings_fit (kind_at im p code) (field_by im p code).default ≡ true → Ready (field_by im p code)
unfolding settings_fit
settings_ready im p code h = record { cell = (kind_celled im p code).cell (and_l _ _ h); default = and_r _ _ h }

-- a trigger is one, whatever its settings
trigger_ready : (im : List ℕ) (p : ℕ) → Ready (field_by im p 0x17)
unfolding kind_at kind_fits when◌then◌else◌
trigger_ready im p = record { cell = trigger_celled.cell refl; default = range_of_trigger _ }

-- so a component that reads without fault holds one: what is no field of ours counts as a trigger
pub component_ready : (im : List ℕ) (p : ℕ) → refusal_number (component_at im p).refusal ≡ 0 → Ready (component_at im p).field
component_ready im p =
    by_reading im p (λ (x : Component). refusal_number x.refusal ≡ 0 → Ready x.field) (λ k z. trigger_ready im p)
    (λ code tag end t g z. settings_ready im p code (no_fault (settings_fit (kind_at im p code) (field_by im p code).default) z))

-- ---- working copies

-- a legal working copy fits
pub legal_fits : (k : Kind) (w : Work) → Legal k w → work_fits k w ≡ true
unfolding work_fits
legal_fits k w h =
    and_i (lt-ltb w.at (profile_of k).cells h.at)
    (if_ind (λ (t : Bool). t ≡ true) (profile_of k).fires (λ _. refl) (λ _. legal_bool k w h.cells))

-- a visit starts with one
pub begun_legal : (f : Field) (sheet : List ℕ) → Ready f → Legal f.kind (begun f sheet)
unfolding begun
begun_legal f sheet r = started_legal f.kind _ f.default r.cell r.default

-- its cells are 32
pub begun_cells : (f : Field) (sheet : List ℕ) → length (begun f sheet).cells ≡ 32
unfolding begun started work_of
begun_cells f sheet = length_fit 0 32 _

-- every key keeps it legal
pub pressed_legal : (k : Kind) (w : Work) (e : ℕ) → Legal k w → Legal k (pressed k w e).work
unfolding pressed
pressed_legal k w e h =
    if_ind P (e =? up) (λ _. up_legal k w h)
    (λ _. if_ind P (e =? down) (λ _. down_legal k w h)
    (λ _. if_ind P (e =? left) (λ _. left_legal k w h)
    (λ _. if_ind P (e =? right) (λ _. right_legal k w h)
    (λ _. if_ind P (e =? enter) (λ _. enter_legal k w h)
    (λ _. if_ind P (e ≤? last_digit_key) (λ d. digit_legal k w h e (omega (arith, leb-true e 9 d))) (λ _. h))))))
  where
    P : Pressed → Type 0
    P r = Legal k r.work

-- a result with so many cells
pub record Long (n : ℕ) (r : Pressed) : Type 0 where
  pub long : length r.work.cells ≡ n

-- a choice of results; nothing changes, another cell is chosen, the chosen one is set, or ENTER goes to a part
by_long : {n : ℕ} (t : Bool) {x y : Pressed} → (t ≡ true → Long n x) → (t ≡ false → Long n y) → Long n (when t then x else y)
by_long {n} t f g = if_ind (Long n) t f g

same_long : (w : Work) (o : Outcome) → Long (length w.cells) (record { work = w; outcome = o })
same_long w o = record { long = refl }

moved_long : (w : Work) (i : ℕ) (o : Outcome) → Long (length w.cells) (record { work = key.choosing w i; outcome = o })
moved_long w i o = record { long = refl }

set_long : (w : Work) (x i : ℕ) (o : Outcome) → Long (length w.cells) (record { work = key.choosing (key.with_chosen w x) i; outcome = o })
set_long w x i o = record { long = length-set w.cells w.at x }

capped_long : (k : Kind) (w : Work) (i : ℕ) (o : Outcome) → Long (length w.cells) (record { work = key.capped k (key.choosing w i); outcome = o })
unfolding key.capped
capped_long k w i o = record { long = length-set w.cells i _ }

-- so it is with every key
pub pressed_long : (k : Kind) (w : Work) (e : ℕ) → Long (length w.cells) (pressed k w e)
unfolding pressed key.up_key key.down_key key.left_key key.right_key key.enter_key key.digit_key key.raised key.lowered
pressed_long k w e = search (by_long, same_long, moved_long, set_long, capped_long) depth 40
