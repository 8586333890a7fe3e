-- Which number a bad image is refused with: 01's table of refusals and the sentences under it, apart from the
-- check: no state, and no refusal that is handed on. Four parts: rows 2 to 5; where rows 6 to 11 apply to a
-- structure; which structure comes after structures without fault; an image.
use Rattle.std.specs.Prelude.{ℕ, zero, suc, ◌+◌, ◌%◌, ◌≤◌, ◌<◌, ◌≡◌, List, [], ◌∷◌, ◌++◌, length}
use Rattle.laws.specs.Bytes.{byte_at, word_at}
use Rattle.field.specs.Sheet.{size_of}
use Rattle.field.specs.declared.record.Field.{Field}
use Rattle.cmf.specs.Limits.{longest_image, deepest_table, most_lines_of_table, most_lines, most_fields}
use Rattle.cmf.specs.Limits.{longest_sheet, prolog_bytes}
use Rattle.cmf.specs.Layouts.{Text, Aligned, Component, Components, GoodSettings, last_bit}
use Rattle.cmf.specs.Grammar.{Prolog, Head, Line, Table, Digits, Every, InSheet, Holds, Apart, is_first}
use Rattle.cmf.specs.Grammar.{is_last, has_submenu, has_password, previous_at, password_at, next_line}
use Rattle.cmf.specs.Grammar.{submenu_table}
use Rattle.cmf.specs.Forms.{Cut, HeadCut, HeadWrong, FieldIs, ComponentCut, ComponentWrong}

-- ---- 01, rows 2 to 5

-- 01: the lowest number that applies
pub record Lowest (P : ℕ → Type 0) (k : ℕ) : Type 0 where
  pub applies : P k
  pub least : (j : ℕ) → P j → k ≤ j

-- rows 2 to 5: image too short or too long; not 'C', 'M', 'F'; not version 0.4; not FF FE
pub data PrologFault (im : List ℕ) : ℕ → Type 0 where
  short : length im < prolog_bytes → PrologFault im 2
  long : longest_image < length im → PrologFault im 2
  id_c : (byte_at im 0 ≡ 0x43 → ⊥) → PrologFault im 3
  id_m : (byte_at im 1 ≡ 0x4d → ⊥) → PrologFault im 3
  id_f : (byte_at im 2 ≡ 0x46 → ⊥) → PrologFault im 3
  major : (byte_at im 3 ≡ 0 → ⊥) → PrologFault im 4
  minor : (byte_at im 4 ≡ 4 → ⊥) → PrologFault im 4
  mark_low : (byte_at im 8 ≡ 0xff → ⊥) → PrologFault im 5
  mark_high : (byte_at im 9 ≡ 0xfe → ⊥) → PrologFault im 5

-- ---- 01, rows 6 to 11: where a number applies to a structure

-- R13: the structures: a table's title, with so many levels left, its table's own among them; a line's head
-- at p, with n lines before it in its table, the nearest at `before`; a component at p. The last two come
-- after what ended at `at`
pub data Structure : Type 0 where
  title : (left t : ℕ) → Structure
  head : (n before at p : ℕ) → Structure
  component : (at p : ℕ) → Structure

-- R6: the first even (parity 0) or odd (parity 1) offset at or after a place
pub record FirstOfParity (parity at place : ℕ) : Type 0 where
  pub agrees : place % 2 ≡ parity
  pub after : at ≤ place
  pub first : place ≤ at + 1

-- a field shares a byte of the sheet with one of a list
pub data Shares (f : Field) : List Field → Type 0 where
  here : {g : Field} {fs : List Field} (x : ℕ) → Holds f x → Holds g x → Shares f (g ∷ fs)
  later : {g : Field} {fs : List Field} → Shares f fs → Shares f (g ∷ fs)

-- a table's title: row 6, a byte of it lies beyond the image; row 8, R15, the table is below the eighth level
pub data TitleFault (im : List ℕ) (left t : ℕ) : ℕ → Type 0 where
  cut : Cut im 1 t → TitleFault im left t 6
  deep : left ≡ 0 → TitleFault im left t 8

-- a line's head, with so many lines before it in the walk
pub data HeadFault (im : List ℕ) (lines n before at p : ℕ) : ℕ → Type 0 where
  -- row 6, R7: of the line as it is read at p. Where p is R6's place, a padding byte beyond the image has its
  -- tag beyond it too; where p is elsewhere, that padding byte is not needed
  cut : HeadCut im p → HeadFault im lines n before at p 6
  -- row 7: R9; R7, the line is not at the first odd offset; R6, the byte skipped is not zero
  wrong : HeadWrong im p → HeadFault im lines n before at p 7
  misplaced : (FirstOfParity 1 at p → ⊥) → HeadFault im lines n before at p 7
  padding : at < p → (byte_at im at ≡ 0 → ⊥) → HeadFault im lines n before at p 7
  -- R8: no first mark at the first line, one at another, or a pointer back that does not lead to the line
  -- before
  unmarked : n ≡ 0 → is_first im p ≡ 0 → HeadFault im lines n before at p 7
  marked : 0 < n → is_first im p ≡ 1 → HeadFault im lines n before at p 7
  previous : 0 < n → is_first im p ≡ 0 → (before + word_at im (previous_at im p) ≡ p → ⊥)
      → HeadFault im lines n before at p 7
  -- row 8: the 100th line of its table, the 1,025th line
  hundredth : most_lines_of_table ≤ n → HeadFault im lines n before at p 8
  many : most_lines ≤ lines → HeadFault im lines n before at p 8
  -- row 9, R19: a password that is not 1 to 8 digits
  password : has_password im p ≡ 1 → (Digits im (password_at im p) → ⊥) → HeadFault im lines n before at p 9

-- a component, with the fields fs before it in the walk; rows 8 to 11 concern fields alone
pub data ComponentFault (im : List ℕ) (extent : ℕ) (fs : List Field) (at p : ℕ) : ℕ → Type 0 where
  -- row 6 (a padding byte beyond the image has its tag beyond it too)
  cut : ComponentCut im p → ComponentFault im extent fs at p 6
  -- row 7: R14, R16; R6, the byte skipped is not zero
  wrong : ComponentWrong im p → ComponentFault im extent fs at p 7
  padding : at < p → (byte_at im at ≡ 0 → ⊥) → ComponentFault im extent fs at p 7
  -- row 8: the 257th field
  many : {f : Field} → FieldIs im p f → most_fields ≤ length fs → ComponentFault im extent fs at p 8
  -- row 9, R19: bad settings
  settings : {f : Field} → FieldIs im p f → (GoodSettings f → ⊥) → ComponentFault im extent fs at p 9
  -- row 10, R18: the sheet is too long, or the field's bytes run past its end
  long : {f : Field} → FieldIs im p f → longest_sheet < extent → ComponentFault im extent fs at p 10
  outside : {f : Field} → FieldIs im p f → extent < f.sheet.0 + size_of f
      → ComponentFault im extent fs at p 10
  -- row 11
  shared : {f : Field} → FieldIs im p f → Shares f fs → ComponentFault im extent fs at p 11

-- 01's table: a number applies to a structure that has these fields and so many lines before it
unfoldable pub Applies : List ℕ → ℕ → List Field → ℕ → Structure → ℕ → Type 0
Applies im extent fs lines (title left t) k = TitleFault im left t k
Applies im extent fs lines (head n before at p) k = HeadFault im lines n before at p k
Applies im extent fs lines (component at p) k = ComponentFault im extent fs at p k

-- ---- 01: the order of the walk: from line to line, at each its components and then its submenu

-- among a line's components from `at` on a structure comes after components without fault; these are the
-- fields before it
pub data InComponents (im : List ℕ) : (at : ℕ) (x : Structure) (fs : List Field) → Type 0 where
  here : {at : ℕ} (p : ℕ) → FirstOfParity 0 at p → InComponents im at (component at p) []
  later :
      {at : ℕ} {x : Structure} {fs gs : List Field} (p mid : ℕ) →
      Aligned im 0 at p → Component im p mid fs → last_bit im p ≡ 0 → InComponents im mid x gs →
      InComponents im at x (fs ++ gs)

-- in the line at p, after what ended at `at`: its head, a component after it, or a structure of the submenu's
-- table, which `Below` describes; with the fields and the number of lines before it
pub data InLine (im : List ℕ) (Below : ℕ → Structure → List Field → ℕ → Type 0) (n before at p : ℕ) :
    (x : Structure) (fs : List Field) (k : ℕ) → Type 0 where
  first : InLine im Below n before at p (head n before at p) [] 0
  components :
      {x : Structure} {fs : List Field} (mid : ℕ) →
      n < most_lines_of_table → Aligned im 1 at p → Head im n before p mid → InComponents im mid x fs →
      InLine im Below n before at p x fs 1
  submenu :
      {x : Structure} {fs gs : List Field} {k : ℕ} (mid end : ℕ) →
      n < most_lines_of_table → Aligned im 1 at p → Head im n before p mid → Components im mid end fs
      → has_submenu im p ≡ 1 →
      Below (submenu_table im p) x gs k →
      InLine im Below n before at p x (fs ++ gs) (1 + k)

-- in a table's lines from the one at p on: in this line, or in a later one, which is read where next-line-ofs
-- leads (R7)
pub data InLines (im : List ℕ) (Submenu : ℕ → List Field → ℕ → Type 0)
    (Below : ℕ → Structure → List Field → ℕ → Type 0) :
    (n before at p : ℕ) (x : Structure) (fs : List Field) (k : ℕ) → Type 0 where
  this :
      {n before at p k : ℕ} {x : Structure} {fs : List Field} →
      InLine im Below n before at p x fs k → InLines im Submenu Below n before at p x fs k
  later :
      {n before at p k j : ℕ} {x : Structure} {fs gs : List Field} (end : ℕ) →
      n < most_lines_of_table → Aligned im 1 at p → Line im Submenu n before p end fs k → is_last im p ≡ 0 →
      InLines im Submenu Below (n + 1) p end (next_line im p) x gs j →
      InLines im Submenu Below n before at p x (fs ++ gs) (k + j)

-- in the table at t: its title, or after the title in its lines, the first at the first odd offset
pub data InTableOver (im : List ℕ) (Submenu : ℕ → List Field → ℕ → Type 0)
    (Below : ℕ → Structure → List Field → ℕ → Type 0) (left t : ℕ) :
    (x : Structure) (fs : List Field) (k : ℕ) → Type 0 where
  first : InTableOver im Submenu Below left t (title left t) [] 0
  lines :
      {x : Structure} {fs : List Field} {k : ℕ} (end p : ℕ) →
      Text im t end → FirstOfParity 1 end p → InLines im Submenu Below 0 0 end p x fs k →
      InTableOver im Submenu Below left t x fs k

-- R15: of a table too deep nothing but the title
pub data TitleOnly (t : ℕ) : (x : Structure) (fs : List Field) (k : ℕ) → Type 0 where
  first : TitleOnly t (title 0 t) [] 0

-- in the table at a place, with so many levels left
unfoldable pub InTable : List ℕ → ℕ → ℕ → Structure → List Field → ℕ → Type 0
InTable im zero t x fs k = TitleOnly t x fs k
InTable im (suc left) t x fs k = InTableOver im (Table im left) (InTable im left) (suc left) t x fs k

-- ---- 01: what the walk meets first is refused, and of several faults there the one of the lowest number

-- the lines and fields before a structure keep the limits that a well-formed image keeps
pub record Kept (extent lines : ℕ) (fs : List Field) : Type 0 where
  pub few_lines : lines ≤ most_lines
  pub few_fields : length fs ≤ most_fields
  pub inside : Every (InSheet extent) fs
  pub apart : Apart fs

-- an image is refused with k: its prolog is, or the prolog is good and some structure, after structures that
-- are all without fault, is at fault
pub data Refused (im : List ℕ) (extent : ℕ) : ℕ → Type 0 where
  prolog : {k : ℕ} → Lowest (PrologFault im) k → Refused im extent k
  structure :
      {k : ℕ} (x : Structure) (fs : List Field) (lines : ℕ) →
      Prolog im → InTable im deepest_table prolog_bytes x fs lines → Kept extent lines fs
      → Lowest (Applies im extent fs lines x) k →
      Refused im extent k
