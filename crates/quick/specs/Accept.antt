-- Nobody has to believe this file: the contract of `refusal_of` speaks of the check alone. What the quick
-- walk knows where it has no doubt: how far the walk of the check would have come, with marks on the sheet's
-- bytes in place of the fields.
use Rattle.std.specs.Prelude.{ℕ, ◌+◌, ◌-◌, ◌*◌, ◌/◌, ◌%◌, ◌^◌, ◌≤◌, ◌<◌, ◌≡◌, true, false, List, [], ◌∷◌}
use Rattle.std.specs.Prelude.{length, get_or}
use Rattle.laws.specs.Bytes.{word_at}
use Rattle.field.specs.Sheet.{size_of}
use Rattle.field.specs.declared.record.Field.{Field}
use Rattle.std.specs.Prelude.{None}
use Rattle.cmf.specs.Limits.{most_fields, most_lines, most_lines_of_table, longest_sheet}
use Rattle.cmf.specs.Readers.{even_from}
use Rattle.cmf.specs.Places.{lines_from, components_from}
use Rattle.cmf.specs.Layouts.{Aligned, Component}
use Rattle.cmf.specs.Grammar.{is_first, is_last, has_submenu, previous_at, password_at, next_line, Head}
use Rattle.acceptance.specs.Check.{State, state, on_components, on_line, on_lines, on_table}
use Rattle.quick.specs.declared.position.Position.{Position}
use Rattle.quick.specs.declared.tally.Tally.{Tally}
use Rattle.acceptance.specs.declared.index.Entry.{Entry}

-- whether byte i of the sheet is marked: its bit, 1 or 0, in words of 64
unfoldable pub mark_at : List ℕ → ℕ → ℕ
mark_at marks i = get_or marks (i / 64) 0 / 2 ^ (i % 64) % 2

-- 01, rows 10 and 11: bytes that lie in the sheet and were free are marked, and what was marked stays so
pub record Claimed (extent : ℕ) (old new : List ℕ) (from size : ℕ) : Type 0 where
  pub inside : from + size ≤ extent
  pub free : (i : ℕ) → from ≤ i → i < from + size → mark_at old i ≡ 1 → ⊥
  pub marked : (i : ℕ) → from ≤ i → i < from + size → mark_at new i ≡ 1
  pub kept : (i : ℕ) → mark_at old i ≡ 1 → mark_at new i ≡ 1

-- 01, row 8: the field of a component, if it is one, is counted, 256 at most, and its bytes are marked
pub data Claims (extent : ℕ) (old new : List ℕ) (before after : ℕ) : List Field → Type 0 where
  none : new ≡ old → after ≡ before → Claims extent old new before after []
  one : {f : Field} → before < most_fields → after ≡ before + 1
      → Claimed extent old new f.sheet.0 (size_of f) → Claims extent old new before after (f ∷ [])

-- R8: the mark of the first and the pointer back, as the grammar's Head asks them
pub record Linked (im : List ℕ) (n before p : ℕ) : Type 0 where
  pub first : n ≡ 0 → is_first im p ≡ 1
  pub later : 0 < n → is_first im p ≡ 0
  pub previous : 0 < n → before + word_at im (previous_at im p) ≡ p

-- R6, 01, row 8: a line's head that the grammar has, at the first odd place after where the walk is, and not
-- the 1,025th
pub record Placed (im : List ℕ) (n before p : ℕ) (w : Tally) (end : ℕ) : Type 0 where
  pub room : w.lines < most_lines
  pub inside : p < length im
  pub aligned : Aligned im 1 w.at p
  pub head : Head im n before p end

-- a component that the grammar has, with its field counted and its bytes marked
pub record Passes (im : List ℕ) (extent p : ℕ) (v w : Tally) (old new : List ℕ) : Type 0 where
  pub fields : List Field
  pub component : Component im p w.at fields
  pub lines : w.lines ≡ v.lines
  pub claims : Claims extent old new v.fields w.fields fields

-- a field that the grammar has, with its place in the sheet after the call address, and so many bytes there
pub record Held (im : List ℕ) (at end size : ℕ) : Type 0 where
  pub inside : at + 6 ≤ length im
  pub field : Field
  pub component : Component im at end (field ∷ [])
  pub place : field.sheet.0 ≡ word_at im (at + 4)
  pub bytes : size_of field ≡ size

-- every byte of the entries is marked
pub data Covers (marks : List ℕ) : List Entry → Type 0 where
  none : Covers marks []
  add :
      {e : Entry} {es : List Entry} → ((i : ℕ) → e.from.0 ≤ i → i < e.from.0 + e.size
      → mark_at marks i ≡ 1) → Covers marks es →
      Covers marks (e ∷ es)

-- a state of the check that has refused nothing and has come as far
pub record AsFar (w : Tally) (marks : List ℕ) (s : State) : Type 0 where
  pub is : s ≡ state (record { refusal = None; at = w.at; lines = w.lines; fields = length s.fields })
      s.fields
  pub count : length s.fields ≡ w.fields
  pub covers : Covers marks s.fields

-- a stretch of the check's walk, for a sheet of so many bytes, goes from one tally to another
pub record Reaches (extent : ℕ) (stretch : State → State) (v w : Tally) (old new : List ℕ) : Type 0 where
  pub reach : (s : State) → extent ≤ longest_sheet → AsFar v old s → AsFar w new (stretch s)

-- the tally after a title or a constant string that ends at a place
abbrev pub past : Tally → ℕ → Tally
past w end = record { at = end; lines = w.lines; fields = w.fields }

-- and after a head
abbrev pub headed : Tally → ℕ → Tally
headed w end = record { at = end; lines = w.lines + 1; fields = w.fields }

-- and after a field
abbrev pub fielded : Tally → ℕ → Tally
fielded w end = record { at = end; lines = w.lines; fields = w.fields + 1 }

-- all components of a line, from the one at a place on, done to a state: they are those that are left, done
-- to a state that has come as far as a tally
pub record PartsLeft (im : List ℕ) (extent first : ℕ) (s : State) (v : Tally) (m : List ℕ) : Type 0 where
  pub here : State
  pub fuel : ℕ
  pub far : AsFar v m here
  pub rest : on_components im extent most_fields (components_from im (length im + 1) first) s
      ≡ on_components im extent most_fields (components_from im fuel (even_from v.at)) here
  pub enough : length im < v.at + fuel

-- so it is from every state that has come as far as another tally
pub record AmongParts (im : List ℕ) (extent : ℕ) (u v : Tally) (old new : List ℕ) : Type 0 where
  pub go : (s : State) → extent ≤ longest_sheet → AsFar u old s
      → PartsLeft im extent (even_from u.at) s v new

-- the same of the lines of a table, of which n are done, the last of them at `before`, and the next one is at
-- p
pub record LinesLeft (im : List ℕ) (extent below first : ℕ) (s : State) (n before p : ℕ) (v : Tally)
    (m : List ℕ) : Type 0 where
  pub here : State
  pub far : AsFar v m here
  pub rest :
      on_lines im extent most_fields (on_table im extent most_fields below) 0 0
      (lines_from im (most_lines_of_table + 1) first) s
      ≡ on_lines im extent most_fields (on_table im extent most_fields below) n before
      (lines_from im (most_lines_of_table + 1 - n) p) here

-- and so it is from every state
pub record AmongLines (im : List ℕ) (extent below first : ℕ) (u : Tally) (old : List ℕ) (n before p : ℕ)
    (v : Tally) (new : List ℕ) : Type 0 where
  pub go : (s : State) → extent ≤ longest_sheet → AsFar u old s
      → LinesLeft im extent below first s n before p v new

-- a position in a table whose walk began at a tally: the lines before its own are done, its own has a head
-- that the grammar has, and its components are done up to the position's tally, or all
pub record Along (im : List ℕ) (extent below first : ℕ) (u : Tally) (old : List ℕ) (s : Position)
    (new : List ℕ) : Type 0 where
  pub before : ℕ
  pub end : ℕ
  pub from : Tally
  pub marks : List ℕ
  pub few : s.n < most_lines_of_table
  pub lines : AmongLines im extent below first u old s.n before s.line.0 from marks
  pub head : Placed im s.n before s.line.0 from end
  pub within : s.done ≡ false → AmongParts im extent (headed from end) s.tally marks new
  pub through : s.done ≡ true → Reaches extent
      (on_components im extent most_fields (components_from im (length im + 1) (even_from end)))
      (headed from end)
      s.tally marks new

-- a position within a line: its components are not all passed, its head and the position itself are in the
-- image, and there is a mark for each byte of the sheet
pub record Within (im : List ℕ) (extent : ℕ) (s : Position) (marks : List ℕ) : Type 0 where
  pub going : s.done ≡ false
  pub head : password_at im s.line.0 ≤ length im
  pub inside : s.tally.at ≤ length im
  pub marked : extent ≤ 64 * length marks

-- from one position to another, in whatever table they are
pub record Moves (im : List ℕ) (extent : ℕ) (s r : Position) (old new : List ℕ) : Type 0 where
  pub inside : password_at im r.line.0 ≤ length im
  pub counted : s.n ≤ r.n
  pub onward : s.tally.at ≤ r.tally.at
  pub fits : r.tally.at ≤ length im
  pub carry : (below first : ℕ) (u : Tally) (began : List ℕ) → Along im extent below first u began s old
      → Along im extent below first u began r new

-- a line with a plain head after the line at a place, which has neither a submenu nor the mark of the last
pub record Next (im : List ℕ) (n line : ℕ) (w : Tally) (s : Position) : Type 0 where
  pub more : is_last im line ≡ 0
  pub plain : has_submenu im line ≡ 0
  pub counted : s.n ≡ n + 1
  pub few : s.n < most_lines_of_table
  pub there : s.line.0 ≡ next_line im line
  pub head : Placed im s.n line s.line.0 w s.tally.at
  pub tally : s.tally ≡ headed w s.tally.at

-- with the submenu of a line, if it has one, the whole line is done
pub record Leaves (im : List ℕ) (extent below line : ℕ) (w r : Tally) (mid new : List ℕ) : Type 0 where
  pub leave :
      {n before end : ℕ} {from : Tally} {old : List ℕ} → n < most_lines_of_table
      → Placed im n before line from end →
      Reaches extent (on_components im extent most_fields (components_from im (length im + 1)
      (even_from end)))
      (headed from end) w old mid →
      Reaches extent (on_line im extent most_fields
      (on_table im extent most_fields below) n before line) from r
      old
      new
