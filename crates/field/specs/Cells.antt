-- A field's number as the cells of a visit, and back; ranges (01, Fields).
use Rattle.std.specs.Prelude.{ℕ, zero, suc, ◌+◌, ◌-◌, ◌*◌, ◌/◌, ◌%◌, Bool, true, false, List, [], ◌∷◌, ◌++◌}
use Rattle.std.specs.Prelude.{get_or}
use Rattle.laws.specs.Choice.{when◌then◌else◌, ◌and◌, ◌=?◌, ◌<?◌, ◌≤?◌}
use Rattle.laws.specs.Parts.{part_at}
use Rattle.laws.specs.Overwrite.{fit}
use Rattle.laws.specs.Digits.{digits_of, number_from}
use Rattle.field.specs.Formats.{max_bits, numeral_of, bits_of}
use Rattle.field.specs.Profiles.{profile_of, cell_of, held_to}
use Rattle.field.specs.Values.{number_of, value_from}
use Rattle.field.specs.declared.numeral.Numeral.{Numeral}
use Rattle.field.specs.declared.kind.Kind.{Kind}
use Rattle.field.specs.declared.kind.Kind.TheVariants.{Integer, Counter, Time, Date, Switch, Option}
use Rattle.field.specs.declared.kind.Kind.TheVariants.{Trigger}
use Rattle.field.specs.declared.profile.Cell.{Cell}
use Rattle.field.specs.declared.work.Work.{Work}
use Rattle.field.specs.declared.value.Value.{Value}

-- ---- numbers in digits: integers and switches

-- in range: from 0 to above, or one of the numbers that stand for -below to -1
unfoldable pub spans : Numeral → ℕ → Bool
spans n x = when x ≤? n.above then true else ((n.limit - n.below) ≤? x) and (x <? n.limit)

-- how far a number in range is from 0
unfoldable pub distance : Numeral → ℕ → ℕ
distance n x = when x ≤? n.above then x else n.limit - x

-- 01, Fields: the sign of a number in range is '+' for 0 and above; a sign cell holds 1 for '+'
unfoldable pub sign_of : Numeral → ℕ → ℕ
sign_of n x = when x ≤? n.above then 1 else 0

-- the sign if there is one, then the digits
unfoldable pub in_digits : Numeral → ℕ → List ℕ
in_digits n x = (when n.signs =? 0 then [] else sign_of n x ∷ [])
    ++ digits_of n.base n.digits (distance n x)

-- what the digit cells show, and whether the sign cell shows '-'
unfoldable pub shown_by : Numeral → List ℕ → ℕ
shown_by n cs = number_from n.base 0 (part_at n.signs n.digits cs)

unfoldable pub minus : Numeral → List ℕ → Bool
minus n cs = when n.signs =? 0 then false else get_or cs 0 0 =? 0

-- 01, Keys: ENTER stores an integer if it is in range
unfoldable pub storable : Numeral → List ℕ → Bool
storable n cs = when minus n cs then shown_by n cs ≤? n.below else shown_by n cs ≤? n.above

-- the number that the cells stand for; 01, Fields: a minus before zero is not kept
unfoldable pub of_digits : Numeral → List ℕ → ℕ
of_digits n cs = when minus n cs then (n.limit - shown_by n cs) % n.limit else shown_by n cs

-- ---- every kind

-- a counter's number is signed and kept with 32,768 added, so that order is the order of numbers
abbrev pub biased : ℕ → ℕ
biased x = (x + 32768) % 65536

-- a number as cells; dates are stored day, month, year and shown year, month, day
unfoldable pub cells_of : Kind → ℕ → List ℕ
cells_of (Integer f) x = in_digits (numeral_of f) x
cells_of (Counter s) x = biased x ∷ []
cells_of (Time long) x = x % 256 ∷ x / 256 % 256 ∷ (when long then x / 65536 % 256 else 0) ∷ []
cells_of (Date long) x = x / 65536 ∷ x / 256 % 256 ∷ x % 256 ∷ []
cells_of (Switch n) x = in_digits (bits_of n) x
cells_of (Option n w) x = x ∷ []
cells_of Trigger x = 0 ∷ []

-- the number that cells stand for
unfoldable pub stored_in : Kind → List ℕ → ℕ
stored_in (Integer f) cs = of_digits (numeral_of f) cs
stored_in (Counter s) cs = biased (get_or cs 0 0)
stored_in (Time long) cs = get_or cs 0 0 + 256 * get_or cs 1 0 + (when long then 65536 * get_or cs 2 0 else 0)
stored_in (Date long) cs = get_or cs 2 0 + 256 * get_or cs 1 0 + 65536 * get_or cs 0 0
stored_in (Switch n) cs = of_digits (bits_of n) cs
stored_in (Option n w) cs = get_or cs 0 0
stored_in Trigger cs = 0

-- an integer's or a switch's number within the numeral's range; the other kinds are settled by the ends of
-- their cells
unfoldable pub in_span : Kind → ℕ → Bool
in_span (Integer f) x = spans (numeral_of f) x
in_span (Counter s) x = true
in_span (Time long) x = true
in_span (Date long) x = true
in_span (Switch n) x = spans (bits_of n) x
in_span (Option n w) x = true
in_span Trigger x = true

-- whether the last ENTER can store what the cells show: by then only an integer's can be legal and out of
-- range
unfoldable pub stores : Kind → List ℕ → Bool
stores (Integer f) cs = storable (numeral_of f) cs
stores (Counter s) cs = true
stores (Time long) cs = true
stores (Date long) cs = true
stores (Switch n) cs = true
stores (Option n w) cs = true
stores Trigger cs = true

-- a cell within its ends
unfoldable pub within : Cell → ℕ → Bool
within c x = (c.low ≤? x) and (x ≤? c.high)

-- the first n cells within the ends of their rows
unfoldable pub all_within : (ℕ → Cell) → List ℕ → ℕ → Bool
all_within row cs zero = true
all_within row cs (suc n) = all_within row cs n and within (row n) (get_or cs n 0)

-- 01, Fields: a number that the field's bytes can hold is in range if its numeral spans it (integers,
-- switches) and its cells are within their ends (the other kinds); 02, No. 3: so a date in range is real
unfoldable pub in_range : Kind → ℕ → Bool
in_range k x = in_span k x and all_within (cell_of k (cells_of k x)) (cells_of k x) (profile_of k).cells

-- 01, A session fits: each cell of a working copy is within the ends of the row that it is held to; R49: so a
-- date is real once its day is chosen. `work_fits` does not ask it of a trigger
unfoldable pub legal : Kind → Work → Bool
legal k w = all_within (held_to k w) w.cells (profile_of k).cells

-- a working copy has as many cells as a switch can have
abbrev pub most_cells : ℕ
most_cells = max_bits

-- a working copy at its first cell; cells that the kind has not are 0
unfoldable pub work_of : List ℕ → Work
work_of cs = record { cells = fit 0 most_cells cs; at = 0 }

-- 01, Fields: a visit starts from the sheet's value, or from the default if that is out of range
unfoldable pub started : Kind → Value → Value → Work
started k v d = work_of (cells_of k (when in_range k (number_of v) then number_of v else number_of d))

-- the value that the cells stand for; the last ENTER of a visit stores it where `stores` holds
unfoldable pub finished : Kind → Work → Value
finished k w = value_from (profile_of k).bytes (stored_in k w.cells)
