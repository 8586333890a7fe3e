-- Which images are well formed: section 7's figures 2 and 3 and 01's limits, as relations between places of
-- the image. Written from the papers, apart from the check: nothing here has a state, an order of checks or a
-- refusal. Formats, sizes and values of fields, and what row 9 asks of their settings (`settings_fit`), are
-- crate field's, for grammar and check alike.
use Rattle.std.specs.Prelude.{ℕ, zero, suc, ◌+◌, ◌-◌, ◌*◌, ◌^◌, ◌≤◌, ◌<◌, ◌≡◌, List, [], ◌∷◌, ◌++◌, length}
use Rattle.laws.specs.Bytes.{byte_at, word_at}
use Rattle.field.specs.Sheet.{size_of}
use Rattle.field.specs.declared.record.Field.{Field}
use Rattle.cmf.specs.Limits.{longest_image, deepest_table, most_lines_of_table, most_lines, most_fields}
use Rattle.cmf.specs.Limits.{longest_password, longest_sheet, prolog_bytes}
use Rattle.cmf.specs.Layouts.{bit, Text, Aligned, Components}

-- ---- 7.3: the prolog

-- 7.3, 01, Image: 'C', 'M', 'F', version 0.4, three delays that may be anything, FF FE; 01, row 2: no image
-- is shorter than this or too long
pub record Prolog (im : List ℕ) : Type 0 where
  pub least : prolog_bytes ≤ length im
  pub most : length im ≤ longest_image
  pub id_c : byte_at im 0 ≡ 0x43
  pub id_m : byte_at im 1 ≡ 0x4d
  pub id_f : byte_at im 2 ≡ 0x46
  pub major : byte_at im 3 ≡ 0
  pub minor : byte_at im 4 ≡ 4
  pub mark_low : byte_at im 8 ≡ 0xff
  pub mark_high : byte_at im 9 ≡ 0xfe

-- ---- 7.4: heads of lines

-- 7.4: the bits of a line's tag, which is at p
abbrev pub is_first : List ℕ → ℕ → ℕ
is_first im p = bit 0 (byte_at im p)

abbrev pub is_last : List ℕ → ℕ → ℕ
is_last im p = bit 1 (byte_at im p)

abbrev pub is_dynamic : List ℕ → ℕ → ℕ
is_dynamic im p = bit 2 (byte_at im p)

abbrev pub has_submenu : List ℕ → ℕ → ℕ
has_submenu im p = bit 3 (byte_at im p)

abbrev pub has_password : List ℕ → ℕ → ℕ
has_password im p = bit 4 (byte_at im p)

-- figure 3, R11: after the tag next-line-ofs:2, if the line is not the last
abbrev pub next_at : ℕ → ℕ
next_at p = p + 1

-- then prev-line-ofs:2, if it is not the first
abbrev pub previous_at : List ℕ → ℕ → ℕ
previous_at im p = next_at p + 2 * (1 - is_last im p)

-- then var-addr:2 of the enable byte, if it has one; R10: read past
abbrev pub enable_at : List ℕ → ℕ → ℕ
enable_at im p = previous_at im p + 2 * (1 - is_first im p)

-- then smenu-abs-ofs:2, if it has a submenu
abbrev pub submenu_at : List ℕ → ℕ → ℕ
submenu_at im p = enable_at im p + 2 * is_dynamic im p

-- then password-str:n+1, if the submenu has a password
abbrev pub password_at : List ℕ → ℕ → ℕ
password_at im p = submenu_at im p + 2 * has_submenu im p

-- 7.4: next-line-ofs counts from this line's tag
abbrev pub next_line : List ℕ → ℕ → ℕ
next_line im p = p + word_at im (next_at p)

-- 7.4, R11: smenu-abs-ofs counts from the top table
abbrev pub submenu_table : List ℕ → ℕ → ℕ
submenu_table im p = prolog_bytes + word_at im (submenu_at im p)

-- 01, row 9, R19: a password has 1 to 8 bytes, each an ASCII digit
pub record Digits (im : List ℕ) (at : ℕ) : Type 0 where
  pub some : 1 ≤ byte_at im at
  pub few : byte_at im at ≤ longest_password
  pub least : (x : ℕ) → at < x → x ≤ at + byte_at im at → 0x30 ≤ byte_at im x
  pub most : (x : ℕ) → at < x → x ≤ at + byte_at im at → byte_at im x ≤ 0x39

-- figure 3: the password of the line at p, if it has one
pub data Password (im : List ℕ) (p end : ℕ) : Type 0 where
  none : has_password im p ≡ 0 → end ≡ password_at im p → Password im p end
  some : has_password im p ≡ 1 → Text im (password_at im p) end → Digits im (password_at im p)
      → Password im p end

-- 7.2, 7.4, ldtag:1 line-opts: the head, with its tag at p, of a line that has n lines before it in its
-- table, the nearest of them at `before`
pub record Head (im : List ℕ) (n before p end : ℕ) : Type 0 where
  -- figure 3: the tag and the options of two bytes are in the image
  pub inside : password_at im p ≤ length im
  pub password : Password im p end
  -- R9: bits 5 to 7 have no meaning, nor has the password bit without a submenu
  pub tag : byte_at im p < 2 ^ 5
  pub protects : has_password im p ≤ has_submenu im p
  -- R8: the first line has the bit of the first, and no other has it
  pub first : n ≡ 0 → is_first im p ≡ 1
  pub later : 0 < n → is_first im p ≡ 0
  -- R8: prev-line-ofs is the distance from the line before
  pub previous : 0 < n → before + word_at im (previous_at im p) ≡ p

-- ---- 7.2: lines and tables

-- 7.2, 7.4: a line is head and components and, if it has a submenu, the table that `Submenu` describes,
-- wherever it is; it has the fields and the lines of both
pub data Line (im : List ℕ) (Submenu : ℕ → List Field → ℕ → Type 0) (n before p end : ℕ) : (fs : List Field)
    (k : ℕ) → Type 0 where
  plain :
      {fs : List Field} (mid : ℕ) →
      Head im n before p mid → Components im mid end fs → has_submenu im p ≡ 0 →
      Line im Submenu n before p end fs 1
  submenu :
      {fs gs : List Field} {k : ℕ} (mid : ℕ) →
      Head im n before p mid → Components im mid end fs → has_submenu im p ≡ 1
      → Submenu (submenu_table im p) gs k →
      Line im Submenu n before p end (fs ++ gs) (1 + k)

-- 7.2, menu-line { (*) menu-line }: a table's lines from the one at p on, 99 in all at most; the last has the
-- bit of the last, and no other has it
pub data Lines (im : List ℕ) (Submenu : ℕ → List Field → ℕ → Type 0) : (n before p : ℕ) (fs : List Field)
    (k : ℕ) → Type 0 where
  last :
      {n before p k : ℕ} {fs : List Field} (end : ℕ) →
      n < most_lines_of_table → Line im Submenu n before p end fs k → is_last im p ≡ 1 →
      Lines im Submenu n before p fs k
  -- R6, R7: the next line is where next-line-ofs leads, and that is the first odd offset at or after this
  -- line's end
  more :
      {n before p k j : ℕ} {fs gs : List Field} (end : ℕ) →
      n < most_lines_of_table → Line im Submenu n before p end fs k → is_last im p ≡ 0 →
      Aligned im 1 end (next_line im p) → Lines im Submenu (n + 1) p (next_line im p) gs j →
      Lines im Submenu n before p (fs ++ gs) (k + j)

-- 7.2, menu-title-string:n+1 (*) menu-line { (*) menu-line }: a title, and lines from the first odd offset at
-- or after its end
pub record TableOver (im : List ℕ) (Submenu : ℕ → List Field → ℕ → Type 0) (at : ℕ) (fs : List Field)
    (k : ℕ) : Type 0 where
  pub title_end : ℕ
  pub first_line : ℕ
  pub title : Text im at title_end
  pub aligned : Aligned im 1 title_end first_line
  pub lines : Lines im Submenu 0 0 first_line fs k

-- 01, row 8: the table at a place, with at most so many tables one below the other, itself counted; its
-- fields and its number of lines, those of its submenus among them
unfoldable pub Table : List ℕ → ℕ → ℕ → List Field → ℕ → Type 0
Table im zero at fs k = ⊥
Table im (suc deep) at fs k = TableOver im (Table im deep) at fs k

-- ---- 01: well-formed images

-- every field of a list
pub data Every (P : Field → Type 0) : List Field → Type 0 where
  none : Every P []
  add : {f : Field} {fs : List Field} → P f → Every P fs → Every P (f ∷ fs)

-- 01, row 10, R18: the extent of a sheet is how many bytes it has. Where there is a field the sheet is not
-- too long, and the field's bytes lie in it
pub record InSheet (extent : ℕ) (f : Field) : Type 0 where
  pub short : extent ≤ longest_sheet
  pub inside : f.sheet.0 + size_of f ≤ extent

-- byte x of the sheet is one of the field's; a trigger has none
pub record Holds (f : Field) (x : ℕ) : Type 0 where
  pub from : f.sheet.0 ≤ x
  pub to : x < f.sheet.0 + size_of f

-- 01, row 11: no byte of the sheet is in both
pub record Disjoint (f g : Field) : Type 0 where
  pub disjoint : (x : ℕ) → Holds f x → Holds g x → ⊥

-- no byte of the sheet is in two fields of a list
pub data Apart : List Field → Type 0 where
  none : Apart []
  add : {f : Field} {fs : List Field} → Every (Disjoint f) fs → Apart fs → Apart (f ∷ fs)

-- 7.2, 01: the prolog, and the top table after it; lines and fields, counted as often as they are reached,
-- are few enough; the fields' bytes lie in a sheet of so many bytes, and apart
pub record WellFormed (im : List ℕ) (extent : ℕ) : Type 0 where
  pub fields : List Field
  pub lines : ℕ
  pub prolog : Prolog im
  pub table : Table im deepest_table prolog_bytes fields lines
  pub few_lines : lines ≤ most_lines
  pub few_fields : length fields ≤ most_fields
  pub inside : Every (InSheet extent) fields
  pub apart : Apart fields
