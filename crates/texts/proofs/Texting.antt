-- One turn of the loop over digit cells, decimal digits from the first on, and the texts of kinds put together from their parts.
use Prim.Native.Nat.{ℕ, zero, suc, ◌+◌, ◌-◌, ◌*◌, ◌/◌, ◌%◌, ◌^◌, ◌≤◌, ◌<◌, min}
use mathlib.Core.Path.{◌≡◌, refl, sym, ap, ◌∙◌}
use mathlib.Core.Bool.{Bool, true, false}
use mathlib.Core.List.{List, [], ◌∷◌, ◌++◌, append-nil, map, map-append}
use native.Mathlib.Omega.{arith}
use borrow.Author.Tests.{le-leb}
use lib.ListN.{length, get_or, replicate, length-append}
use Rattle.laws.specs.Bytes.{byte_at}
use Rattle.laws.specs.Choice.{when◌then◌else◌, ◌≤?◌, ◌and◌}
use Rattle.laws.proofs.Cases.{if_eq, if_ne, if_lt, if_ge, if_true, if_false}
use Rattle.laws.specs.Overwrite.{fit}
use Rattle.field.specs.Settings.{digit_count}
use Rattle.field.specs.Profiles.{profile_of, cell_of}
use Rattle.field.specs.Values.{number_of, value_at}
use Rattle.field.specs.Cells.{cells_of, within, in_range, work_of}
use Rattle.field.proofs.Ranges.{range_of_option, range_of_trigger}
use Rattle.field.specs.declared.kind.Kind.TheVariants.{Option, Trigger}
use Rattle.field.specs.declared.numeral.Numeral.{Numeral}
use Rattle.field.specs.declared.record.Field.{Field}
use Rattle.field.specs.declared.profile.Profile.{Profile}
use Rattle.field.specs.declared.value.Value.{Value}
use Rattle.field.specs.declared.work.Work.{Work}
use Rattle.cmf.specs.Readers.{text_bytes, item_place}
use Rattle.cmf.proofs.Shortcuts.{one_byte}
use Rattle.laws.specs.Digits.{digit0, digits_of}
use Rattle.laws.proofs.Subtracting.{digits_low, digits_by_powers}
use Rattle.texts.specs.Row.{Put}
use Rattle.texts.specs.Texts.{blank, dash, colon, digit_char, sign_char, digit_cells, numeral_text, decimal, count_text, aligned_right, padded_right, time_text, trigger_text, cells_text, width_of, hash, sheet_number, field_text}
use Rattle.texts.proofs.Writing.{put_then, same}

-- the next digit cell
pub digits_cell : (cs : List ℕ) (i n k d b : ℕ) → n ≡ suc k → d ≡ get_or cs i 0 → b ≡ digit_char d → digit_cells cs i n ≡ b ∷ digit_cells cs (i + 1) k
unfolding digit_cells
digits_cell cs i n k d b h e f = rw (h, f, e)

pub length_digits : (cs : List ℕ) (i n : ℕ) → length (digit_cells cs i n) ≡ n
unfolding digit_cells
length_digits cs i zero = refl
length_digits cs i (suc n) = ap suc (length_digits cs (i + 1) n)

pub length_decimal : (n v : ℕ) → length (decimal n v) ≡ n
unfolding decimal
length_decimal zero v = refl
length_decimal (suc n) v = rw (length-append (decimal n (v / 10)) ((digit0 + v % 10) ∷ []), length_decimal n (v / 10)) (omega arith)

-- the characters of a number's digits
as_digits_lem : (n x : ℕ) → decimal n x ≡ map (λ (d : ℕ). digit0 + d) (digits_of 10 n x)
unfolding decimal digits_of
as_digits_lem zero x = refl
as_digits_lem (suc n) x = rw (as_digits_lem n (x / 10)) (sym (map-append (λ (d : ℕ). digit0 + d) (digits_of 10 n (x / 10)) (x % 10 ∷ [])))

-- digits do not see what is above them
pub decimal_low : (n x : ℕ) → decimal n (x % 10 ^ n) ≡ decimal n x
decimal_low n x = rw (as_digits_lem n (x % 10 ^ n), as_digits_lem n x, digits_low 10 n x (omega arith))

-- the first digit, and those of what is left
pub decimal_first : (n x d r : ℕ) → 0 < n → x < 10 ^ n → d ≡ min 9 (x / 10 ^ (n - 1)) → r ≡ x - d * 10 ^ (n - 1) → decimal n x ≡ (digit0 + d) ∷ decimal (n - 1) r
decimal_first n x d r h p q e =
    rw (as_digits_lem n x, digits_by_powers 10 n x d r (omega arith) h p q e, ← as_digits_lem (n - 1) r)

-- ---- integers and switches

pub numeral_plain : {x z : List ℕ} {at r : ℕ} (n : Numeral) (cs : List ℕ) → n.signs ≡ 0 → Put x at (digit_cells cs 0 n.digits) z r → Put x at (numeral_text n cs) z r
unfolding numeral_text
numeral_plain n cs h e = same (sym (if_eq n.signs 0 _ _ h)) e

pub numeral_signed : {x y z : List ℕ} {at m r : ℕ} (n : Numeral) (cs : List ℕ) (d b : ℕ) → (n.signs ≡ 0 → ⊥) → d ≡ get_or cs 0 0 → b ≡ sign_char d
    → Put x at (b ∷ []) y m → Put y m (digit_cells cs 1 n.digits) z r → Put x at (numeral_text n cs) z r
unfolding numeral_text
numeral_signed n cs d b h e f g k = same (sym (if_ne n.signs 0 _ _ h)) (put_then (rw (f, e) at g) k)

-- ---- counters

pub count_below : {x y u z : List ℕ} {at m o r : ℕ} (w v n k : ℕ) → v < 32768 → n ≡ digit_count (32768 - v) → k ≡ w - (1 + n) → Put x at (replicate k blank) y m
    → Put y m (dash ∷ []) u o → Put u o (decimal n (32768 - v)) z r → Put x at (aligned_right w (count_text v)) z r
unfolding count_text
count_below w v n k h e f a b d =
    let t : count_text v ≡ dash ∷ decimal n (32768 - v) = if_lt v 32768 _ _ h ∙ rw e in
    let l : w - length (dash ∷ decimal n (32768 - v)) ≡ k = omega (arith, length_decimal n (32768 - v)) in
    rw (t, l) (put_then a (put_then b d))

pub count_above : {x y z : List ℕ} {at m r : ℕ} (w v n k : ℕ) → 32768 ≤ v → n ≡ digit_count (v - 32768) → k ≡ w - n → Put x at (replicate k blank) y m
    → Put y m (decimal n (v - 32768)) z r → Put x at (aligned_right w (count_text v)) z r
unfolding count_text
count_above w v n k h e f a d =
    let t : count_text v ≡ decimal n (v - 32768) = if_ge v 32768 _ _ h ∙ rw e in
    let l : w - length (decimal n (v - 32768)) ≡ k = omega (arith, length_decimal n (v - 32768)) in
    rw (t, l) (put_then a d)

-- ---- times and dates

pub decimal_as : {x z : List ℕ} {n m v w at r : ℕ} → n ≡ m → v ≡ w → Put x at (decimal n v) z r → Put x at (decimal m w) z r
decimal_as e f g = rw (e, f) at g

pub time_long : {x z : List ℕ} {at r : ℕ} (cs : List ℕ) (long : Bool) → long ≡ true
    → Put x at (decimal 2 (get_or cs 0 0) ++ (colon ∷ (decimal 2 (get_or cs 1 0) ++ (colon ∷ decimal 2 (get_or cs 2 0))))) z r
    → Put x at (time_text long cs) z r
unfolding time_text when◌then◌else◌
time_long cs long h e = rw h e

pub time_short : {x z : List ℕ} {at r : ℕ} (cs : List ℕ) (long : Bool) → long ≡ false
    → Put x at (decimal 2 (get_or cs 0 0) ++ (colon ∷ decimal 2 (get_or cs 1 0))) z r
    → Put x at (time_text long cs) z r
unfolding time_text when◌then◌else◌
time_short cs long h e = rw (h, append-nil) e

-- ---- options

pub item_padded : {x y z s t : List ℕ} {at m r : ℕ} (w k : ℕ) → s ≡ t → k ≡ w - length s → Put x at s y m → Put y m (replicate k blank) z r
    → Put x at (padded_right w t) z r
item_padded w k e f a b = put_then (rw e at a) (rw (f, e) at b)

-- ---- fields and components

pub number_is : (sheet : List ℕ) (f : Field) (r : Profile) (v : Value) (n : ℕ) → r ≡ profile_of f.kind → v ≡ value_at f.sheet.0 r.bytes sheet
    → n ≡ number_of v → n ≡ sheet_number sheet f
number_is sheet f r v n a b e = e ∙ rw (b, a)

pub field_in : {x z : List ℕ} {at r : ℕ} (im sheet : List ℕ) (p : ℕ) (f : Field) (n : ℕ) (t : Bool) (w : Work) → n ≡ sheet_number sheet f → t ≡ in_range f.kind n → t ≡ true
    → w ≡ work_of (cells_of f.kind n) → Put x at (cells_text im p f.kind w.cells) z r → Put x at (field_text im sheet p f) z r
unfolding field_text
field_in im sheet p f n t w e a b g k =
    let h : in_range f.kind (sheet_number sheet f) ≡ true = rw (← e) (sym a ∙ b) in
    same (sym (if_true _ _ h)) (rw (g, e) at k)

pub field_out : {x z : List ℕ} {at r : ℕ} (im sheet : List ℕ) (p : ℕ) (f : Field) (n k : ℕ) (t : Bool) → n ≡ sheet_number sheet f → t ≡ in_range f.kind n → t ≡ false
    → k ≡ width_of f.kind → Put x at (replicate k hash) z r → Put x at (field_text im sheet p f) z r
unfolding field_text
field_out im sheet p f n k t e a b g d =
    let h : in_range f.kind (sheet_number sheet f) ≡ false = rw (← e) (sym a ∙ b) in
    same (sym (if_false _ _ h)) (rw g at d)

-- an option's number is its byte, and in range up to its last item
option_number : (sheet : List ℕ) (f : Field) (n w : ℕ) → f.kind ≡ Option n w → sheet_number sheet f ≡ byte_at sheet f.sheet.0
unfolding profile_of
option_number sheet f n w k = rw k (one_byte f.sheet.0 sheet)

option_range : (n w b : ℕ) → in_range (Option n w) b ≡ (b ≤? (n - 1))
unfolding within cell_of ◌and◌
option_range n w b = range_of_option n w b ∙ rw (le-leb 0 b (omega arith))

pub field_option : {x z : List ℕ} {at r : ℕ} (im sheet : List ℕ) (p : ℕ) (f : Field) (n w b : ℕ) → f.kind ≡ Option n w → b ≡ byte_at sheet f.sheet.0
    → Put x at (when b ≤? (n - 1) then padded_right w (text_bytes im (item_place im p b)) else replicate w hash) z r → Put x at (field_text im sheet p f) z r
unfolding field_text cells_text cells_of work_of fit width_of
field_option im sheet p f n w b k e a = same (sym (rw (option_number sheet f n w k, ← e, k, option_range n w b))) a

pub field_trigger : {x z : List ℕ} {at r : ℕ} (im sheet : List ℕ) (p : ℕ) (f : Field) → f.kind ≡ Trigger → Put x at trigger_text z r → Put x at (field_text im sheet p f) z r
unfolding field_text cells_text
field_trigger im sheet p f k a = same (sym (rw (k, range_of_trigger) (if_true _ _ refl))) a
