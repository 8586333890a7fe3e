-- A component by its tests; fields of integers and of what counts as a trigger; what the definition comes to at the codes of a constant string and of an option.
use Prim.Native.Nat.{ℕ, ◌+◌, ◌-◌, ◌%◌, ◌≤◌, ◌<◌}
use mathlib.Core.Path.{◌≡◌, refl, sym, ◌∙◌}
use mathlib.Core.Bool.{true, false}
use mathlib.Core.List.{List, []}
use native.Mathlib.Omega.{arith}
use lib.ListN.{length}
use borrow.Author.Tests.{le-leb, lt-leb, leb-true, ltb-true, ltb-false}
use Rattle.laws.specs.Choice.{when◌then◌else◌, ◌and◌, ◌=?◌, ◌<?◌, ◌≤?◌}
use Rattle.laws.specs.Bytes.{byte_at, word_at, room}
use Rattle.laws.specs.Digits.{from_low, number_from}
use Rattle.laws.specs.Overwrite.{fit}
use Rattle.laws.proofs.Cases.{if_true, if_false, if_lt, if_le, if_gt, by_test}
use Rattle.field.specs.Formats.{format_of}
use Rattle.field.specs.Profiles.{profile_of, cell_of}
use Rattle.field.specs.Cells.{within}
use Rattle.field.specs.Settings.{kind_fits, settings_fit}
use Rattle.field.specs.Values.{number_of, value_of, value_at}
use Rattle.field.specs.declared.kind.Kind.TheVariants.{Integer, Option, Trigger}
use Rattle.field.specs.declared.value.Value.{Value}
use Rattle.field.proofs.Padded.{part_four}
use Rattle.field.proofs.Ranges.{range_of_option, range_of_trigger}
use Rattle.cmf.specs.Readers.{tag_bit, even_from, texts_from, fixed_bytes, text_count, given, kind_at, default_place, sheet_place_at, field_by, component_refused, component_read, laid_out, component_by, component_at}
use Rattle.cmf.specs.declared.text.Run.{Run}
use Rattle.std.specs.Prelude.{None}
use Rattle.cmf.specs.declared.refusal.Refusal.TheVariants as fault
use Rattle.cmf.proofs.Codes.{integer_bytes, integer_field}

-- ---- by the tests of the definition

-- the component with the code of the tag that is there
pub component_here : (im : List ℕ) (at code : ℕ) → at < length im → byte_at im at % 32 ≡ code → component_by im at code (byte_at im at) ≡ component_at im at
unfolding component_at
component_here im at code h e = sym (if_lt at (length im) _ _ h ∙ rw e)

module _ (im : List ℕ) (at code tag : ℕ) (known : code < 0x18) where
  -- not all fixed bytes are there
  pub fixed_short : room (length im) at (fixed_bytes code (tag_bit 32 tag)) ≡ false → component_by im at code tag ≡ component_refused im at fault.Cut
  unfolding component_by laid_out
  fixed_short r = if_lt code 0x18 _ _ known ∙ if_false _ _ r

  module _ (t : Run) (whole : room (length im) at (fixed_bytes code (tag_bit 32 tag)) ≡ true)
      (read : t ≡ texts_from im (text_count im at code) (at + fixed_bytes code (tag_bit 32 tag)) 0) where
    -- not all texts are there
    pub texts_short : t.fits ≡ false → component_by im at code tag ≡ component_refused im at fault.Cut
    unfolding component_by laid_out
    texts_short f = if_lt code 0x18 _ _ known ∙ rw (← read) (if_true _ _ whole ∙ if_false _ _ f)

    -- all is there, and section 7 does not give it
    pub not_given : t.fits ≡ true → given im at code (tag_bit 32 tag) t ≡ false → component_by im at code tag ≡ component_refused im at fault.Form
    unfolding component_by laid_out
    not_given f g = if_lt code 0x18 _ _ known ∙ rw (← read) (if_true _ _ whole ∙ if_true _ _ f ∙ if_false _ _ g)

    -- section 7 gives it
    pub all_given : t.fits ≡ true → given im at code (tag_bit 32 tag) t ≡ true → component_by im at code tag ≡ component_read im at code tag t.end
    unfolding component_by laid_out
    all_given f g = if_lt code 0x18 _ _ known ∙ rw (← read) (if_true _ _ whole ∙ if_true _ _ f ∙ if_true _ _ g)

-- ---- fields

-- the default of a short integer has one byte, that of a long one two
pub short_bytes : (c : ℕ) → c ≤ 0x04 → (profile_of (Integer (format_of c))).bytes ≡ 1
unfolding fixed_bytes
short_bytes c h = let e : fixed_bytes c 0 ≡ 7 = if_le c 0x04 _ _ h in omega (arith, integer_bytes c 0 (omega arith))

pub long_bytes : (c : ℕ) → 0x04 < c → c ≤ 0x0a → (profile_of (Integer (format_of c))).bytes ≡ 2
unfolding fixed_bytes
long_bytes c l h = let e : fixed_bytes c 0 ≡ 8 = if_gt c 0x04 _ _ l ∙ if_le c 0x0a _ _ h in omega (arith, integer_bytes c 0 h)

module _ (im : List ℕ) (at c : ℕ) where
  pub short_integer : c ≤ 0x04
      → record { image = record { 0 = at }; sheet = record { 0 = word_at im (at + 4) }; kind = Integer (format_of c); default = value_at (at + 6) 1 im } ≡ field_by im at c
  short_integer h = sym (integer_field im at c (omega arith) ∙ rw (short_bytes c h))

  pub long_integer : 0x04 < c → c ≤ 0x0a
      → record { image = record { 0 = at }; sheet = record { 0 = word_at im (at + 4) }; kind = Integer (format_of c); default = value_at (at + 6) 2 im } ≡ field_by im at c
  long_integer l h = sym (integer_field im at c h ∙ rw (long_bytes c l h))

  -- what counts as a trigger has no bytes
  pub trigger_field : kind_at im at c ≡ Trigger
      → record { image = record { 0 = at }; sheet = record { 0 = sheet_place_at im at c }; kind = Trigger; default = value_of 0 [] } ≡ field_by im at c
  unfolding profile_of
  trigger_field e = rw e

-- ---- a constant string

-- no setting of a trigger is bad
pub trigger_fits : (v : Value) → settings_fit Trigger v ≡ true
unfolding settings_fit kind_fits ◌and◌
trigger_fits v = range_of_trigger (number_of v)

pub string_texts : (im : List ℕ) (at : ℕ) → text_count im at 0x15 ≡ 1
unfolding text_count when◌then◌else◌
string_texts im at = refl

module _ (tag : ℕ) (constant : tag_bit 32 tag ≡ 0) where
  pub string_fixed : fixed_bytes 0x15 (tag_bit 32 tag) ≡ 1
  unfolding fixed_bytes when◌then◌else◌
  string_fixed = rw constant

  pub string_given : (im : List ℕ) (at : ℕ) (t : Run) → given im at 0x15 (tag_bit 32 tag) t ≡ true
  unfolding given when◌then◌else◌
  string_given im at t = rw constant

  -- no field, and nothing of it can be bad
  pub string_read : (im : List ℕ) (at end : ℕ)
      → record { refusal = None; last = tag_bit 128 tag =? 1; editable = false; fielded = false; field = record { image = record { 0 = at }; sheet = record { 0 = 0 }; kind = Trigger; default = value_of 0 [] }; end = end; next = record { 0 = even_from end } }
      ≡ component_read im at 0x15 tag end
  unfolding kind_at sheet_place_at default_place profile_of when◌then◌else◌ fit
  string_read im at end = rw (constant, trigger_fits)

-- ---- an option

pub option_fixed : (edit : ℕ) → fixed_bytes 0x14 edit ≡ 10
unfolding fixed_bytes when◌then◌else◌
option_fixed edit = refl

pub option_texts : (im : List ℕ) (at : ℕ) → text_count im at 0x14 ≡ byte_at im (at + 7)
unfolding text_count when◌then◌else◌
option_texts im at = refl

-- its edit bit does not matter
pub option_edit : (im : List ℕ) (at edit : ℕ) (t : Run) → given im at 0x14 0 t ≡ given im at 0x14 edit t
unfolding given when◌then◌else◌
option_edit im at edit t = refl

-- the number in one byte is that byte
pub one_byte : (at : ℕ) (im : List ℕ) → number_of (value_at at 1 im) ≡ byte_at im at
unfolding number_of from_low number_from when◌then◌else◌
one_byte at im = rw (part_four at 1 im) (omega arith)

-- its settings are good where its default is below its count of items
pub option_good : (n w : ℕ) (v : Value) → (number_of v <? n) ≡ settings_fit (Option n w) v
unfolding settings_fit kind_fits within cell_of ◌and◌
option_good n w v =
    let x = number_of v in
    rw (range_of_option n w x) (by_test (x <? n) (λ h. let l = ltb-true x n h in h ∙ sym (simp (le-leb 1 n (omega arith), le-leb 0 x (omega arith), le-leb x (n - 1) (omega arith))))
    (λ h. let l = ltb-false x n h in h ∙ sym (by_test (1 ≤? n) (λ k. let m = leb-true 1 n k in simp (k, le-leb 0 x (omega arith), lt-leb x (n - 1) (omega arith))) (λ k. simp k))))

pub option_fits : (im : List ℕ) (at : ℕ) → (byte_at im (at + 9) <? byte_at im (at + 7)) ≡ settings_fit (kind_at im at 0x14) (field_by im at 0x14).default
unfolding kind_at default_place profile_of when◌then◌else◌
option_fits im at = rw (← one_byte (at + 9) im) (option_good _ _ _)
