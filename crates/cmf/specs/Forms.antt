-- Rows 6 and 7 of 01's table for a text, a line's head and a component by themselves: which bytes each needs,
-- and what section 7 does not give. Written from the papers, apart from the readers: no order of reading, and
-- no refusal. A byte beyond the image counts as 0.
use Rattle.std.specs.Prelude.{ℕ, suc, ◌+◌, ◌^◌, ◌≤◌, ◌<◌, ◌≡◌, List, [], ◌∷◌, length}
use Rattle.laws.specs.Bytes.{byte_at}
use Rattle.field.specs.Sheet.{size_of}
use Rattle.field.specs.declared.record.Field.{Field}
use Rattle.cmf.specs.Layouts.{Text, Texts, code, edit_bit, integer_at, counter_at, time_long_at}
use Rattle.cmf.specs.Layouts.{time_short_at, date_long_at, date_short_at, switch_at, option_at, trigger_at}
use Rattle.cmf.specs.Grammar.{has_submenu, has_password, password_at}

-- ---- 7.1: texts

-- 01, row 6: of so many texts, one after the other, one ends beyond the image; those before it are texts
pub data Cut (im : List ℕ) : (n at : ℕ) → Type 0 where
  here : {n at : ℕ} → length im < at + 1 + byte_at im at → Cut im (suc n) at
  later : {n at : ℕ} (mid : ℕ) → Text im at mid → Cut im n mid → Cut im (suc n) at

-- ---- 7.4: a line's head

-- 01, row 6: the tag, an option of two bytes or the password of the line at p is not all in the image. R9: a
-- tag with a bit above 4 has no options, and the password bit without a submenu no password
pub data HeadCut (im : List ℕ) (p : ℕ) : Type 0 where
  tag : length im ≤ p → HeadCut im p
  options : byte_at im p < 2 ^ 5 → length im < password_at im p → HeadCut im p
  password : byte_at im p < 2 ^ 5 → has_submenu im p ≡ 1 → has_password im p ≡ 1 → Cut im 1 (password_at im p)
      → HeadCut im p

-- 01, row 7, R9: a bit above 4, or the password bit without a submenu
pub data HeadWrong (im : List ℕ) (p : ℕ) : Type 0 where
  tag : 2 ^ 5 ≤ byte_at im p → HeadWrong im p
  protects : has_submenu im p < has_password im p → HeadWrong im p

-- ---- 7.5: a component

-- 7.5, 01: the forms that 01 covers, a row for each, as in the grammar: by its code a component has so many
-- bytes, its tag among them, then so many texts, and is this field or none
pub data Form (im : List ℕ) (at : ℕ) : (bytes texts : ℕ) (fs : List Field) → Type 0 where
  integer : code im at ≤ 0x0a → Form im at (6 + size_of (integer_at im at)) 0 (integer_at im at ∷ [])
  counter : code im at ≡ 0x0d → Form im at 15 0 (counter_at im at ∷ [])
  time_long : code im at ≡ 0x0f → Form im at 9 0 (time_long_at im at ∷ [])
  time_short : code im at ≡ 0x10 → Form im at 8 0 (time_short_at im at ∷ [])
  date_long : code im at ≡ 0x11 → Form im at 10 0 (date_long_at im at ∷ [])
  date_short : code im at ≡ 0x12 → Form im at 9 0 (date_short_at im at ∷ [])
  switch : code im at ≡ 0x13 → Form im at 14 (byte_at im (at + 7)) (switch_at im at ∷ [])
  option : code im at ≡ 0x14 → Form im at 10 (byte_at im (at + 7)) (option_at im at ∷ [])
  constant : code im at ≡ 0x15 → edit_bit im at ≡ 0 → Form im at 1 1 []
  trigger : code im at ≡ 0x17 → Form im at 4 0 (trigger_at im at ∷ [])

-- the component at a place is this field
pub record FieldIs (im : List ℕ) (at : ℕ) (f : Field) : Type 0 where
  pub bytes : ℕ
  pub texts : ℕ
  pub form : Form im at bytes texts (f ∷ [])

-- the forms that 01 leaves for later, with their bytes and texts by section 7; R4, R14: a code that section 7
-- does not give has its tag alone
pub data NotCovered (im : List ℕ) (at : ℕ) : (bytes texts : ℕ) → Type 0 where
  -- 7.5.12, 7.5.13: update:1 call-addr:2 var-addr:2 default:4
  float : 0x0b ≤ code im at → code im at ≤ 0x0c → NotCovered im at 10 0
  -- 7.5.15: update:1 call-addr:2 var-addr:2 min:4 max:4 step:4 default:4 field-width:1
  fcounter : code im at ≡ 0x0e → NotCovered im at 23 0
  -- 7.5.22, read-write, R3: update:1 call-addr:2 var-addr:2 string:n+1
  variable : code im at ≡ 0x15 → edit_bit im at ≡ 1 → NotCovered im at 6 1
  -- 7.5.23, R3: update:1 call-addr:2 string:n+1
  password : code im at ≡ 0x16 → NotCovered im at 4 1
  no_code : 0x18 ≤ code im at → NotCovered im at 1 0

-- so many bytes from a place on, and so many texts after them, are not all in the image
pub data Beyond (im : List ℕ) (at bytes texts : ℕ) : Type 0 where
  fixed : length im < at + bytes → Beyond im at bytes texts
  text : Cut im texts (at + bytes) → Beyond im at bytes texts

-- 01, row 6, R13, R14, R17: the component at a place needs a byte beyond the image, a form left for later too
pub data ComponentCut (im : List ℕ) (at : ℕ) : Type 0 where
  form : {bytes texts : ℕ} {fs : List Field} → Form im at bytes texts fs → Beyond im at bytes texts
      → ComponentCut im at
  not_covered : {bytes texts : ℕ} → NotCovered im at bytes texts → Beyond im at bytes texts
      → ComponentCut im at

-- 01, row 7: the component at a place is a form left for later or has no form; R16: or its length is not its
-- size, or an option's field-width not the length of its longest item
pub data ComponentWrong (im : List ℕ) (at : ℕ) : Type 0 where
  not_covered : {bytes texts : ℕ} → NotCovered im at bytes texts → ComponentWrong im at
  switch_length :
      {end longest : ℕ} → code im at ≡ 0x13 → Texts im (byte_at im (at + 7)) (at + 14) end longest →
      (end ≡ at + byte_at im (at + 6) → ⊥) → ComponentWrong im at
  option_length :
      {end longest : ℕ} → code im at ≡ 0x14 → Texts im (byte_at im (at + 7)) (at + 10) end longest →
      (end ≡ at + byte_at im (at + 6) → ⊥) → ComponentWrong im at
  option_width :
      {end longest : ℕ} → code im at ≡ 0x14 → Texts im (byte_at im (at + 7)) (at + 10) end longest →
      (longest ≡ byte_at im (at + 8) → ⊥) → ComponentWrong im at
