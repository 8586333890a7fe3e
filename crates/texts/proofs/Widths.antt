-- What a field shows takes as many cells as its kind is said to take, whether from the sheet, from a visit, or as '#'.
use Prim.Native.Nat.{ℕ, zero, suc, ◌+◌, ◌-◌, ◌≤◌, ◌<◌}
use mathlib.Core.Path.{◌≡◌, refl, sym, ap, ◌∙◌}
use mathlib.Core.Bool.{Bool, true, false}
use mathlib.Core.List.{List, [], ◌∷◌}
use native.Mathlib.Omega.{arith}
use lib.ListN.{length, get_or, replicate, drop, length-append, length-replicate, length-take}
use borrow.Author.Tests.{leb-true, eqb-true, eqb-false, ltb-true, ltb-false}
use Rattle.laws.specs.Choice.{when◌then◌else◌, ◌=?◌, ◌<?◌}
use Rattle.laws.proofs.Cases.{if_ind, by_test, if_lt, if_ge, if_max, and_l, and_r}
use Rattle.field.specs.Formats.{signs_of, numeral_of, bits_of}
use Rattle.field.specs.Profiles.{profile_of, cell_of, open_day, held_to}
use Rattle.field.specs.Cells.{within, all_within, legal}
use Rattle.field.specs.Settings.{digit_count, counted_cells, width_fits, kind_fits, settings_fit}
use Rattle.field.specs.declared.kind.Kind.{Kind}
use Rattle.field.specs.declared.kind.Kind.TheVariants.{Integer, Counter, Time, Date, Switch, Option, Trigger}
use Rattle.field.specs.declared.kind.CounterSettings.{CounterSettings}
use Rattle.field.specs.declared.numeral.Numeral.{Numeral}
use Rattle.laws.specs.Bytes.{byte_at, room}
use Rattle.field.specs.declared.record.Field.{Field}
use Rattle.field.specs.declared.work.Work.{Work}
use Rattle.cmf.specs.Readers.{text_bytes, item_from, item_place, counter_of}
use Rattle.cmf.specs.Layouts.{Texts, Component}
use Rattle.cmf.specs.Grammar.{Every}
use Rattle.texts.specs.Texts.{blank, dash, plain, digit_cells, numeral_text, decimal, count_text, aligned_right, padded_right, time_text, year_cells, date_text, cells_text, width_of}
use Rattle.texts.proofs.Texting.{length_decimal}

-- ---- the statement

-- only a counter's number and an option's item could be wider than the field: the others are as wide as their cells
unfoldable pub Room : List ℕ → ℕ → Kind → List ℕ → Type 0
Room im p (Integer f) cs = Unit
Room im p (Counter s) cs = counted_cells (get_or cs 0 0) ≤ s.width
Room im p (Time long) cs = Unit
Room im p (Date long) cs = Unit
Room im p (Switch n) cs = Unit
Room im p (Option n w) cs = length (text_bytes im (item_place im p (get_or cs 0 0))) ≤ w
Room im p Trigger cs = Unit

-- ---- parts of texts

digits_width : (cs : List ℕ) (at n : ℕ) → length (digit_cells cs at n) ≡ n
unfolding digit_cells
digits_width cs at zero = refl
digits_width cs at (suc n) = ap suc (digits_width cs (at + 1) n)

numeral_width : (n : Numeral) (cs : List ℕ) → n.signs ≤ 1 → length (numeral_text n cs) ≡ n.signs + n.digits
unfolding numeral_text
numeral_width n cs h =
    if_ind (λ (l : List ℕ). length l ≡ n.signs + n.digits) (n.signs =? 0)
    (λ e. digits_width cs 0 n.digits ∙ omega (arith, eqb-true n.signs 0 e))
    (λ e. ap suc (digits_width cs 1 n.digits) ∙ omega (arith, eqb-false n.signs 0 e))

count_width : (x : ℕ) → length (count_text x) ≡ counted_cells x
unfolding count_text counted_cells
count_width x =
    by_test (x <? 32768)
    (λ e. let h = ltb-true x 32768 e in
    rw (if_lt x 32768 (dash ∷ plain (32768 - x)) (plain (x - 32768)) h, if_lt x 32768 (1 + digit_count (32768 - x)) (digit_count (x - 32768)) h) (ap suc (length_decimal (digit_count (32768 - x)) (32768 - x)) ∙ omega arith))
    (λ e. let h = ltb-false x 32768 e in
    rw (if_ge x 32768 (dash ∷ plain (32768 - x)) (plain (x - 32768)) h, if_ge x 32768 (1 + digit_count (32768 - x)) (digit_count (x - 32768)) h) (length_decimal (digit_count (x - 32768)) (x - 32768)))

aligned_width : (w : ℕ) (s : List ℕ) → length s ≤ w → length (aligned_right w s) ≡ w
aligned_width w s h = length-append (replicate (w - length s) blank) s ∙ omega (arith, length-replicate {A = ℕ} (w - length s) blank)

padded_width : (w : ℕ) (s : List ℕ) → length s ≤ w → length (padded_right w s) ≡ w
padded_width w s h = length-append s (replicate (w - length s) blank) ∙ omega (arith, length-replicate {A = ℕ} (w - length s) blank)

time_width : (long : Bool) (cs : List ℕ) → length (time_text long cs) ≡ (when long then 8 else 5)
unfolding time_text decimal when◌then◌else◌
time_width true cs = refl
time_width false cs = refl

date_width : (long : Bool) (cs : List ℕ) → length (date_text long cs) ≡ year_cells long + 6
unfolding date_text decimal year_cells when◌then◌else◌
date_width true cs = refl
date_width false cs = refl

-- ---- every kind

pub cells_width : (im : List ℕ) (p : ℕ) (k : Kind) (cs : List ℕ) → Room im p k cs → length (cells_text im p k cs) ≡ width_of k
unfolding cells_text width_of signs_of Room
cells_width im p (Integer f) cs r = numeral_width (numeral_of f) cs (if_max f.signed (omega arith) (omega arith))
cells_width im p (Counter s) cs r = aligned_width s.width (count_text (get_or cs 0 0)) (rw (count_width (get_or cs 0 0)) r)
cells_width im p (Time long) cs r = time_width long cs
cells_width im p (Date long) cs r = date_width long cs
cells_width im p (Switch n) cs r = numeral_width (bits_of n) cs (omega arith) ∙ omega arith
cells_width im p (Option n w) cs r = padded_width w (text_bytes im (item_place im p (get_or cs 0 0))) r
cells_width im p Trigger cs r = refl

-- ---- a counter within its ends has room in its width

-- at most and at least so many digits, by the powers of ten that a number has reached
module _ (x b : ℕ) where
  at_most : 1 ≤ b → (10 ≤ x → 2 ≤ b) → (100 ≤ x → 3 ≤ b) → (1000 ≤ x → 4 ≤ b) → (10000 ≤ x → 5 ≤ b) → digit_count x ≤ b
  unfolding digit_count
  at_most one two three four five =
      if_ind (λ (n : ℕ). n ≤ b) (x <? 10) (λ _. one)
      (λ e. if_ind (λ (n : ℕ). n ≤ b) (x <? 100) (λ _. two (ltb-false x 10 e))
      (λ f. if_ind (λ (n : ℕ). n ≤ b) (x <? 1000) (λ _. three (ltb-false x 100 f))
      (λ g. if_ind (λ (n : ℕ). n ≤ b) (x <? 10000) (λ _. four (ltb-false x 1000 g)) (λ h. five (ltb-false x 10000 h)))))

  at_least : (x < 10 → b ≤ 1) → (x < 100 → b ≤ 2) → (x < 1000 → b ≤ 3) → (x < 10000 → b ≤ 4) → b ≤ 5 → b ≤ digit_count x
  unfolding digit_count
  at_least one two three four five =
      if_ind (λ (n : ℕ). b ≤ n) (x <? 10) (λ e. one (ltb-true x 10 e))
      (λ _. if_ind (λ (n : ℕ). b ≤ n) (x <? 100) (λ e. two (ltb-true x 100 e))
      (λ _. if_ind (λ (n : ℕ). b ≤ n) (x <? 1000) (λ e. three (ltb-true x 1000 e))
      (λ _. if_ind (λ (n : ℕ). b ≤ n) (x <? 10000) (λ e. four (ltb-true x 10000 e)) (λ _. five))))

places_grow : (x y : ℕ) → x ≤ y → digit_count x ≤ digit_count y
places_grow x y h =
    at_most x (digit_count y) (reach 1 (λ e. omega arith) (λ e. omega arith) (λ e. omega arith) (λ e. omega arith) (omega arith))
    (λ l. reach 2 (λ e. absurd (omega arith)) (λ e. omega arith) (λ e. omega arith) (λ e. omega arith) (omega arith))
    (λ l. reach 3 (λ e. absurd (omega arith)) (λ e. absurd (omega arith)) (λ e. omega arith) (λ e. omega arith) (omega arith))
    (λ l. reach 4 (λ e. absurd (omega arith)) (λ e. absurd (omega arith)) (λ e. absurd (omega arith)) (λ e. omega arith) (omega arith))
    (λ l. reach 5 (λ e. absurd (omega arith)) (λ e. absurd (omega arith)) (λ e. absurd (omega arith)) (λ e. absurd (omega arith)) (omega arith))
  where
    reach : (b : ℕ) → (y < 10 → b ≤ 1) → (y < 100 → b ≤ 2) → (y < 1000 → b ≤ 3) → (y < 10000 → b ≤ 4) → b ≤ 5 → b ≤ digit_count y
    reach b = at_least y b

-- between two numbers no number is wider than both
count_between : (low x high w : ℕ) → low ≤ x → x ≤ high → counted_cells low ≤ w → counted_cells high ≤ w → counted_cells x ≤ w
unfolding counted_cells
count_between low x high w a b c d =
    by_test (x <? 32768)
    (λ e. let h = ltb-true x 32768 e in
    rw (if_lt x 32768 (1 + digit_count (32768 - x)) (digit_count (x - 32768)) h)
    (omega (arith, rw (if_lt low 32768 (1 + digit_count (32768 - low)) (digit_count (low - 32768)) (omega arith)) at c, places_grow (32768 - x) (32768 - low) (omega arith))))
    (λ e. let h = ltb-false x 32768 e in
    rw (if_ge x 32768 (1 + digit_count (32768 - x)) (digit_count (x - 32768)) h)
    (omega (arith, rw (if_ge high 32768 (1 + digit_count (32768 - high)) (digit_count (high - 32768)) (omega arith)) at d, places_grow (x - 32768) (high - 32768) (omega arith))))

-- a counter with good settings, at a legal value, has room
pub counter_room : (s : CounterSettings) (v : Work) → kind_fits (Counter s) ≡ true → legal (Counter s) v ≡ true → counted_cells (get_or v.cells 0 0) ≤ s.width
unfolding kind_fits width_fits legal all_within profile_of cell_of open_day held_to within when◌then◌else◌
counter_room s v g l =
    let w = and_r _ _ g in
    let i = and_r _ _ l in
    count_between s.min (get_or v.cells 0 0) s.max s.width
    (leb-true s.min (get_or v.cells 0 0) (and_l _ _ i)) (leb-true (get_or v.cells 0 0) s.max (and_r _ _ i))
    (leb-true (counted_cells s.min) s.width (and_l _ _ w)) (leb-true (counted_cells s.max) s.width (and_r _ _ w))

-- ---- an option's items have room in its width, for section 7 makes it the longest

-- no text has more bytes than its length byte says
text_short : (im : List ℕ) (at : ℕ) → length (text_bytes im at) ≤ byte_at im at
unfolding text_bytes
text_short im at =
    if_ind (λ (l : List ℕ). length l ≤ byte_at im at) (room (length im) at (1 + byte_at im at))
    (λ _. omega (arith, length-take (byte_at im at) (drop (at + 1) im))) (λ _. omega arith)

-- of texts of the grammar none is longer than the longest
texts_short : (im : List ℕ) {n at end longest : ℕ} → Texts im n at end longest → (k : ℕ) → k < n → byte_at im (item_from im k at) ≤ longest
unfolding item_from
texts_short im Texts.none k h = absurd (omega arith)
texts_short im (Texts.more mid t ts) zero h = omega arith
texts_short im {at = at} (Texts.more {longest = m} mid t ts) (suc k) h =
    let e : item_from im (suc k) at ≡ item_from im k mid =
    if_lt at (length im) _ _ (omega (arith, t.ends, t.inside)) ∙ ap (λ (i : ℕ). item_from im k i) (sym t.ends) in
    rw e (omega (arith, texts_short im ts k (omega arith)))

-- ---- every field of the grammar

-- an option with good settings has an item
option_some : (n w : ℕ) → kind_fits (Option n w) ≡ true → 1 ≤ n
unfolding kind_fits
option_some n w h = leb-true 1 n h

-- a legal option shows one of its items
legal_item : (n w : ℕ) (v : Work) → 1 ≤ n → legal (Option n w) v ≡ true → get_or v.cells 0 0 < n
unfolding legal all_within profile_of cell_of open_day held_to within when◌then◌else◌
legal_item n w v h l = omega (arith, leb-true (get_or v.cells 0 0) (n - 1) (and_r _ _ (and_r _ _ l)))

-- a field shows as many cells as it takes, whatever legal cells it shows
pub record Wide (im : List ℕ) (f : Field) : Type 0 where
  pub wide : (w : Work) → legal f.kind w ≡ true → length (cells_text im f.image.0 f.kind w.cells) ≡ width_of f.kind

-- a kind that is as wide as its cells
plain_wide : (im : List ℕ) (f : Field) → ((cs : List ℕ) → Room im f.image.0 f.kind cs) → Every (Wide im) (f ∷ [])
plain_wide im f r = Every.add (record { wide = λ w l. cells_width im f.image.0 f.kind w.cells (r w.cells) }) Every.none

-- so does every field that section 7 gives
pub component_wide : (im : List ℕ) (at end : ℕ) (fs : List Field) → Component im at end fs → Every (Wide im) fs
unfolding Room settings_fit
component_wide im at end fs (Component.integer c l g) = plain_wide im _ (λ cs. tt)
component_wide im at end fs (Component.counter c l g) =
    Every.add (record { wide = λ w h. cells_width im at (Counter (counter_of im at)) w.cells (counter_room (counter_of im at) w (and_l _ _ g.good) h) }) Every.none
component_wide im at end fs (Component.time_long c l g) = plain_wide im _ (λ cs. tt)
component_wide im at end fs (Component.time_short c l g) = plain_wide im _ (λ cs. tt)
component_wide im at end fs (Component.date_long c l g) = plain_wide im _ (λ cs. tt)
component_wide im at end fs (Component.date_short c l g) = plain_wide im _ (λ cs. tt)
component_wide im at end fs (Component.switch c l g) = plain_wide im _ (λ cs. tt)
component_wide im at end fs (Component.option c l g) =
    Every.add (record { wide = λ w h. cells_width im at (Option (byte_at im (at + 7)) (byte_at im (at + 8))) w.cells (item_room w h) }) Every.none
  where
    item_room : (w : Work) → legal (Option (byte_at im (at + 7)) (byte_at im (at + 8))) w ≡ true
        → length (text_bytes im (item_place im at (get_or w.cells 0 0))) ≤ byte_at im (at + 8)
    item_room w h =
        let i = legal_item (byte_at im (at + 7)) (byte_at im (at + 8)) w (option_some _ _ (and_l _ _ g.good)) h in
        omega (arith, text_short im (item_place im at (get_or w.cells 0 0)), texts_short im l.items (get_or w.cells 0 0) i)
component_wide im at end fs (Component.constant c b x) = Every.none
component_wide im at end fs (Component.trigger c l) = plain_wide im _ (λ cs. tt)
