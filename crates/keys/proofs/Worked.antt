-- Visits of each kind worked out by hand, one statement over one list, by computation. (01's own cases are in `journal`, as whole sittings.)
use Prim.Native.Nat.{ℕ}
use mathlib.Core.Path.{◌≡◌, refl}
use mathlib.Core.Bool.{true, false}
use mathlib.Core.List.{List, [], ◌∷◌, map}
use lib.ListN.{length}
use Rattle.laws.specs.Choice.{when◌then◌else◌, ◌and◌}
use Rattle.laws.specs.Overwrite.{fit}
use Rattle.laws.specs.Digits.{digits_of, number_from, low_first, from_low}
use Rattle.field.specs.Formats.{format_of, signs_of, digits_in, base_of, limit_of, half_of, top_of, bits_in}
use Rattle.field.specs.Calendar.{leap_year, month_end, full_year}
use Rattle.field.specs.Profiles.{profile_of, end_of, cell_of}
use Rattle.field.specs.Values.{bytes_of, value_of, number_of, value_from}
use Rattle.field.specs.Cells.{spans, distance, sign_of, in_digits, shown_by, minus, storable, of_digits, cells_of, stored_in, in_span, stores, within, all_within, in_range, work_of, started, finished}
use Rattle.keys.specs.Keys.{raised, lowered, up_key, down_key, left_key, right_key, on_right, digit_key, part_after, capped, enter_key}
use Rattle.field.specs.declared.kind.Kind.{Kind}
use Rattle.field.specs.declared.kind.Kind.TheVariants.{Integer, Time, Date, Switch, Option, Trigger}
use Rattle.field.specs.declared.work.Work.{Work}
use Rattle.field.specs.declared.value.Value.{Value}
use Rattle.keys.specs.declared.press.Pressed.{Pressed}
use Rattle.keys.specs.declared.press.Outcome.{Outcome}
use Rattle.keys.specs.declared.press.Outcome.TheVariants.{Taken, Flash, NextPart, Done, Fired, Passed}

-- ---- keys, by the rows of the table

-- what a key makes of a working copy of a kind
abbrev pub Key : Type 0
Key = Kind → Work → Pressed

abbrev pub up : Key
up k w = up_key (profile_of k) (cell_of k w.cells w.at) w

abbrev pub down : Key
down k w = down_key (profile_of k) (cell_of k w.cells w.at) w

abbrev pub left : Key
left k w = left_key (profile_of k) (cell_of k w.cells w.at) w

abbrev pub right : Key
right k w = right_key (profile_of k) (cell_of k w.cells w.at) w

abbrev pub typed : ℕ → Key
typed d k w = digit_key (profile_of k) (cell_of k w.cells w.at) w d

abbrev pub enter : Key
enter k w = enter_key k w

-- ---- visits

-- the field's kind, its bytes in the sheet, its default, the keys; what each key comes to, and the bytes that the cells stand for at the end
pub record Case : Type 0 where
  pub kind : Kind
  pub sheet : List ℕ
  pub default : List ℕ
  pub keys : List Key
  pub outcomes : List Outcome
  pub bytes : List ℕ

-- a case
abbrev case : Kind → List ℕ → List ℕ → List Key → List Outcome → List ℕ → Case
case k s d ks os bs = record { kind = k; sheet = s; default = d; keys = ks; outcomes = os; bytes = bs }

-- what a visit comes to
pub record Seen : Type 0 where
  pub outcomes : List Outcome
  pub bytes : List ℕ

-- a visit from a working copy by keys
abbrev pub visit : Kind → Work → List Key → Seen
visit k w [] = record { outcomes = []; bytes = bytes_of (finished k w) }
visit k w (key ∷ keys) =
    let p = key k w in
    let s = visit k p.work keys in
    record { outcomes = p.outcome ∷ s.outcomes; bytes = s.bytes }

-- the value in some bytes
abbrev value : List ℕ → Value
value bs = value_of (length bs) bs

-- what comes of a case
abbrev pub runs : Case → Seen
runs c = visit c.kind (started c.kind (value c.sheet) (value c.default)) c.keys

-- and what is listed for it
abbrev pub expected : Case → Seen
expected c = record { outcomes = c.outcomes; bytes = c.bytes }

-- a signed integer of two digits
abbrev sdd : Kind
sdd = Integer (format_of 3)

-- a line for each case
unfoldable pub cases : List Case
cases =
    -- an item that is not there: the visit starts from the default, the last item
    case (Option 2 3) (7 ∷ []) (1 ∷ []) (right ∷ up ∷ enter ∷ []) (Flash ∷ Flash ∷ Done ∷ []) (1 ∷ [])
    -- hours at 23: UP flashes; minutes step
    ∷ case (Time true) (23 ∷ 5 ∷ 7 ∷ []) (0 ∷ 0 ∷ 0 ∷ []) (up ∷ enter ∷ down ∷ enter ∷ enter ∷ [])
    (Flash ∷ NextPart ∷ Taken ∷ NextPart ∷ Done ∷ []) (23 ∷ 4 ∷ 7 ∷ [])
    -- sdd at -5: '-' is set again, the second digit steps to 6; -6 is stored
    ∷ case sdd (251 ∷ []) (0 ∷ []) (down ∷ right ∷ right ∷ up ∷ enter ∷ []) (Taken ∷ Taken ∷ Taken ∷ Taken ∷ Done ∷ []) (250 ∷ [])
    -- sdd at 0: minus zero is stored as 0, and a digit key flashes on the sign
    ∷ case sdd (0 ∷ []) (0 ∷ []) (down ∷ typed 7 ∷ enter ∷ []) (Taken ∷ Flash ∷ Done ∷ []) (0 ∷ [])
    -- the last day of 9999, and the first of 0: no part steps past its end
    ∷ case (Date true) (31 ∷ 12 ∷ 15 ∷ 39 ∷ []) (1 ∷ 1 ∷ 0 ∷ 0 ∷ []) (up ∷ enter ∷ up ∷ enter ∷ up ∷ enter ∷ [])
    (Flash ∷ NextPart ∷ Flash ∷ NextPart ∷ Flash ∷ Done ∷ []) (31 ∷ 12 ∷ 15 ∷ 39 ∷ [])
    ∷ case (Date true) (1 ∷ 1 ∷ 0 ∷ 0 ∷ []) (1 ∷ 1 ∷ 0 ∷ 0 ∷ []) (down ∷ enter ∷ down ∷ enter ∷ down ∷ enter ∷ [])
    (Flash ∷ NextPart ∷ Flash ∷ NextPart ∷ Flash ∷ Done ∷ []) (1 ∷ 1 ∷ 0 ∷ 0 ∷ [])
    -- 31 March 2024: down to February, and ENTER lowers the day to the 29th, which UP does not pass; from 2023 to the 28th
    ∷ case (Date true) (31 ∷ 3 ∷ 232 ∷ 7 ∷ []) (1 ∷ 1 ∷ 0 ∷ 0 ∷ []) (enter ∷ down ∷ enter ∷ up ∷ enter ∷ [])
    (NextPart ∷ Taken ∷ NextPart ∷ Flash ∷ Done ∷ []) (29 ∷ 2 ∷ 232 ∷ 7 ∷ [])
    ∷ case (Date false) (31 ∷ 3 ∷ 24 ∷ []) (1 ∷ 1 ∷ 0 ∷ []) (down ∷ enter ∷ down ∷ enter ∷ up ∷ down ∷ up ∷ enter ∷ [])
    (Taken ∷ NextPart ∷ Taken ∷ NextPart ∷ Flash ∷ Taken ∷ Taken ∷ Done ∷ []) (28 ∷ 2 ∷ 23 ∷ [])
    -- past February and back with the 31st: nothing is lowered before ENTER
    ∷ case (Date true) (31 ∷ 3 ∷ 232 ∷ 7 ∷ []) (1 ∷ 1 ∷ 0 ∷ 0 ∷ []) (enter ∷ down ∷ down ∷ enter ∷ enter ∷ [])
    (NextPart ∷ Taken ∷ Taken ∷ NextPart ∷ Done ∷ []) (31 ∷ 1 ∷ 232 ∷ 7 ∷ [])
    -- 31 April is no date: the visit starts from the default
    ∷ case (Date true) (31 ∷ 4 ∷ 232 ∷ 7 ∷ []) (29 ∷ 2 ∷ 208 ∷ 7 ∷ []) (enter ∷ enter ∷ enter ∷ []) (NextPart ∷ NextPart ∷ Done ∷ [])
    (29 ∷ 2 ∷ 208 ∷ 7 ∷ [])
    -- a switch of nine bits at 1 0000 0101: on, off, the next bit on; a digit key flashes
    ∷ case (Switch 9) (5 ∷ 1 ∷ 0 ∷ 0 ∷ []) (0 ∷ 0 ∷ 0 ∷ 0 ∷ []) (up ∷ down ∷ right ∷ up ∷ typed 3 ∷ enter ∷ [])
    (Taken ∷ Taken ∷ Taken ∷ Taken ∷ Flash ∷ Done ∷ []) (133 ∷ 0 ∷ 0 ∷ 0 ∷ [])
    -- a trigger: cursor keys fire, a digit key flashes, ENTER passes it by
    ∷ case Trigger [] [] (up ∷ left ∷ typed 3 ∷ enter ∷ []) (Fired ∷ Fired ∷ Flash ∷ Passed ∷ []) []
    ∷ []

-- every case comes out as listed
pub worked : map runs cases ≡ map expected cases
unfolding cases when◌then◌else◌ ◌and◌ fit digits_of number_from low_first from_low format_of signs_of digits_in base_of limit_of half_of top_of bits_in leap_year month_end full_year profile_of end_of cell_of number_of value_from spans distance sign_of in_digits shown_by minus storable of_digits cells_of stored_in in_span stores within all_within in_range work_of started finished raised lowered up_key down_key left_key right_key on_right digit_key part_after capped enter_key
worked = refl
