-- What is at a place of an image by section 7: texts, padding, and the components of a line, each with the
-- field that it is. Places are offsets from the image's first byte; `end` is the place after a structure.
use Rattle.std.specs.Prelude.{ℕ, suc, ◌+◌, ◌/◌, ◌%◌, ◌^◌, ◌≤◌, ◌<◌, max, true, false, ◌≡◌, List, [], ◌∷◌}
use Rattle.std.specs.Prelude.{◌++◌, length}
use Rattle.laws.specs.Bytes.{byte_at, word_at}
use Rattle.field.specs.Formats.{format_of}
use Rattle.field.specs.Profiles.{profile_of}
use Rattle.field.specs.Values.{value_of, value_at}
use Rattle.field.specs.Cells.{biased}
use Rattle.field.specs.Settings.{settings_fit}
use Rattle.field.specs.Sheet.{size_of}
use Rattle.field.specs.declared.kind.Kind.{Kind}
use Rattle.field.specs.declared.kind.Kind.TheVariants.{Integer, Counter, Time, Date, Switch, Option, Trigger}
use Rattle.field.specs.declared.kind.CounterSettings.{CounterSettings}
use Rattle.field.specs.declared.record.Field.{Field}

-- ---- 7.1, 7.2: bits, texts and padding

-- 7.1, [i]: bit i of a number, 0 or 1
abbrev pub bit : ℕ → ℕ → ℕ
bit i x = (x / 2 ^ i) % 2

-- 7.1, string:n+1: a length byte n, and n bytes
pub record Text (im : List ℕ) (at end : ℕ) : Type 0 where
  pub ends : end ≡ at + 1 + byte_at im at
  pub inside : end ≤ length im

-- 7.5.20, 7.5.21, R17: so many texts, one after the other, and the length of the longest, 0 if there is none
pub data Texts (im : List ℕ) : (n at end longest : ℕ) → Type 0 where
  none : {at : ℕ} → Texts im 0 at at 0
  more :
      {n at end longest : ℕ} (mid : ℕ) → Text im at mid → Texts im n mid end longest →
      Texts im (suc n) at end (max (byte_at im at) longest)

-- 7.2, (*), R6: the first even (parity 0) or odd (parity 1) offset at or after a place; a byte skipped is in
-- the image and zero
pub record Aligned (im : List ℕ) (parity at place : ℕ) : Type 0 where
  pub agrees : place % 2 ≡ parity
  pub after : at ≤ place
  pub first : place ≤ at + 1
  pub inside : at < place → at < length im
  pub zeroed : at < place → byte_at im at ≡ 0

-- ---- 7.5: tags and fields

-- 7.5: bits 0 to 4 of a component's tag are its code, bit 5 says editable, bit 7 last of its line; bit 6,
-- blink, may be either
abbrev pub code : List ℕ → ℕ → ℕ
code im at = byte_at im at % 2 ^ 5

abbrev pub edit_bit : List ℕ → ℕ → ℕ
edit_bit im at = bit 5 (byte_at im at)

abbrev pub last_bit : List ℕ → ℕ → ℕ
last_bit im at = bit 7 (byte_at im at)

-- 7.5: after tag:1, update:1 and call-addr:2 comes var-addr:2, the field's place in the sheet; its default is
-- at d and has as many bytes as its value in the sheet
abbrev pub field_with : List ℕ → ℕ → Kind → ℕ → Field
field_with im at k d = record {
  image = record { 0 = at };
  sheet = record { 0 = word_at im (at + 4) };
  kind = k;
  default = value_at d (profile_of k).bytes im;
}

-- 7.5.1 to 7.5.11: the code gives the format
abbrev pub integer_at : List ℕ → ℕ → Field
integer_at im at = field_with im at (Integer (format_of (code im at))) (at + 6)

-- 7.5.14, R2: min, max and step are signed; min and max are kept with 32,768 added
abbrev pub counter_settings_at : List ℕ → ℕ → CounterSettings
counter_settings_at im at = record {
  min = biased (word_at im (at + 6));
  max = biased (word_at im (at + 8));
  step = word_at im (at + 10);
  width = byte_at im (at + 14);
}

abbrev pub counter_at : List ℕ → ℕ → Field
counter_at im at = field_with im at (Counter (counter_settings_at im at)) (at + 12)

-- 7.5.16, 7.5.17, R3: with seconds or without
abbrev pub time_long_at : List ℕ → ℕ → Field
time_long_at im at = field_with im at (Time true) (at + 6)

abbrev pub time_short_at : List ℕ → ℕ → Field
time_short_at im at = field_with im at (Time false) (at + 6)

-- 7.5.18, 7.5.19, R5: with a year of two bytes or one
abbrev pub date_long_at : List ℕ → ℕ → Field
date_long_at im at = field_with im at (Date true) (at + 6)

abbrev pub date_short_at : List ℕ → ℕ → Field
date_short_at im at = field_with im at (Date false) (at + 6)

-- 7.5.20: nswitch bits; on-char and off-char are read past, since 01 shows '1' and '0'
abbrev pub switch_at : List ℕ → ℕ → Field
switch_at im at = field_with im at (Switch (byte_at im (at + 7))) (at + 10)

-- 7.5.21, R1: nopts items, field-width wide
abbrev pub option_at : List ℕ → ℕ → Field
option_at im at = field_with im at (Option (byte_at im (at + 7)) (byte_at im (at + 8))) (at + 9)

-- 7.5.24, R18: a trigger has no bytes in the sheet and no var-addr; its place there is put down as 0, its
-- default as no bytes
abbrev pub trigger_at : List ℕ → ℕ → Field
trigger_at im at = record {
  image = record { 0 = at };
  sheet = record { 0 = 0 };
  kind = Trigger;
  default = value_of 0 [];
}

-- ---- 7.5: layouts

-- a component of n bytes, its tag among them
pub record FixedLayout (im : List ℕ) (at n end : ℕ) : Type 0 where
  pub ends : end ≡ at + n
  pub inside : end ≤ length im

-- 7.5.20, R16, R17: nswitch texts after the default, the longest of any length; length counts the component's
-- bytes, its texts among them
pub record SwitchLayout (im : List ℕ) (at end : ℕ) : Type 0 where
  pub inside : at + 14 ≤ length im
  pub longest : ℕ
  pub texts : Texts im (byte_at im (at + 7)) (at + 14) end longest
  pub counted : end ≡ at + byte_at im (at + 6)

-- 7.5.21, R1, R16, R17: nopts items after the default; field-width is the longest item's length; length
-- counts as in a switch
pub record OptionLayout (im : List ℕ) (at end : ℕ) : Type 0 where
  pub inside : at + 10 ≤ length im
  pub items : Texts im (byte_at im (at + 7)) (at + 10) end (byte_at im (at + 8))
  pub counted : end ≡ at + byte_at im (at + 6)

-- 01, Fields, R19: a field's settings are good, and its default is in range
pub record GoodSettings (f : Field) : Type 0 where
  pub good : settings_fit f.kind f.default ≡ true

-- ---- 7.5: the table of codes

-- the component whose tag is at a place, with its field if it is one. 01 leaves for later: floats (0x0b,
-- 0x0c), fcounter (0x0e), variable string (0x15, editable), password (0x16). R4: section 7 gives no meaning
-- to 0x18 to 0x1f. None of these has a row
pub data Component (im : List ℕ) (at end : ℕ) : List Field → Type 0 where
  -- 7.5.1 to 7.5.11: update:1 call-addr:2 var-addr:2 default:1 (codes 0x00 to 0x04) or default:2 (0x05 to
  -- 0x0a)
  integer :
      code im at ≤ 0x0a → FixedLayout im at (6 + size_of (integer_at im at)) end
      → GoodSettings (integer_at im at) →
      Component im at end (integer_at im at ∷ [])
  -- 7.5.14, R2: update:1 call-addr:2 var-addr:2 min:2 max:2 step:2 default:2 field-width:1
  counter :
      code im at ≡ 0x0d → FixedLayout im at 15 end → GoodSettings (counter_at im at) →
      Component im at end (counter_at im at ∷ [])
  -- 7.5.16, R3: update:1 call-addr:2 var-addr:2 hours:1 minutes:1 seconds:1
  time_long :
      code im at ≡ 0x0f → FixedLayout im at 9 end → GoodSettings (time_long_at im at) →
      Component im at end (time_long_at im at ∷ [])
  -- 7.5.17: update:1 call-addr:2 var-addr:2 hours:1 minutes:1
  time_short :
      code im at ≡ 0x10 → FixedLayout im at 8 end → GoodSettings (time_short_at im at) →
      Component im at end (time_short_at im at ∷ [])
  -- 7.5.18: update:1 call-addr:2 var-addr:2 day:1 month:1 year:2
  date_long :
      code im at ≡ 0x11 → FixedLayout im at 10 end → GoodSettings (date_long_at im at) →
      Component im at end (date_long_at im at ∷ [])
  -- 7.5.19: update:1 call-addr:2 var-addr:2 day:1 month:1 year:1
  date_short :
      code im at ≡ 0x12 → FixedLayout im at 9 end → GoodSettings (date_short_at im at) →
      Component im at end (date_short_at im at ∷ [])
  -- 7.5.20: update:1 call-addr:2 var-addr:2 length:1 nswitch:1 on-char:1 off-char:1 default:4 string:n+1 ..
  switch :
      code im at ≡ 0x13 → SwitchLayout im at end → GoodSettings (switch_at im at) →
      Component im at end (switch_at im at ∷ [])
  -- 7.5.21, R1: update:1 call-addr:2 var-addr:2 length:1 nopts:1 field-width:1 default:1 string:n+1 ..
  option :
      code im at ≡ 0x14 → OptionLayout im at end → GoodSettings (option_at im at) →
      Component im at end (option_at im at ∷ [])
  -- 7.5.22, read-only, R4: string:n+1; a gap of blanks is one of these too
  constant :
      code im at ≡ 0x15 → edit_bit im at ≡ 0 → Text im (at + 1) end →
      Component im at end []
  -- 7.5.24, R3, R19a: update:1 call-addr:2; the edit bit may be either
  trigger :
      code im at ≡ 0x17 → FixedLayout im at 4 end →
      Component im at end (trigger_at im at ∷ [])

-- 7.2, (*) line-comp { (*) line-comp }: each at an even offset; the last has the bit of the last, and no
-- other has it; their fields in order
pub data Components (im : List ℕ) : (at end : ℕ) (fs : List Field) → Type 0 where
  last :
      {at end : ℕ} {fs : List Field} (p : ℕ) →
      Aligned im 0 at p → Component im p end fs → last_bit im p ≡ 1 →
      Components im at end fs
  more :
      {at end : ℕ} {fs gs : List Field} (p mid : ℕ) →
      Aligned im 0 at p → Component im p mid fs → last_bit im p ≡ 0 → Components im mid end gs →
      Components im at end (fs ++ gs)
