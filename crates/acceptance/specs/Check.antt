-- The check of an image and a sheet: 01's table of refusals, structure by structure in the order of the walk,
-- which goes from line to line, at each through its components and then down into its submenu. What it meets
-- first is refused, and of several faults there the one with the lowest number.
use Rattle.std.specs.Prelude.{ℕ, zero, suc, ◌+◌, Bool, true, false, List, [], ◌∷◌, ◌++◌, length, Option, Some, None}
use Rattle.laws.specs.Choice.{when◌then◌else◌, ◌and◌, ◌=?◌, ◌<?◌, ◌≤?◌}
use Rattle.laws.specs.Bytes.{byte_at, room}
use Rattle.field.specs.Sheet.{size_of}
use Rattle.field.specs.declared.record.Field.{Field}
use Rattle.cmf.specs.Limits.{longest_image, deepest_table, most_lines_of_table, most_lines, most_fields}
use Rattle.cmf.specs.Limits.{longest_sheet, prolog_bytes}
use Rattle.cmf.specs.Readers.{odd_from, title_at, first_at, back_at, head_at, component_at}
use Rattle.cmf.specs.Places.{lines_of, components_of}
use Rattle.cmf.specs.Refusals.{refusal_number}
use Rattle.cmf.specs.declared.refusal.Refusal.{Refusal}
use Rattle.cmf.specs.declared.refusal.Refusal.TheVariants as fault
use Rattle.cmf.specs.declared.title.Title.{Title}
use Rattle.cmf.specs.declared.head.Head.{Head}
use Rattle.cmf.specs.declared.component.Component.{Component}
use Rattle.acceptance.specs.declared.index.Entry.{Entry}
use Rattle.acceptance.specs.declared.progress.Progress.{Progress}

-- the walk's state, and the fields that it has taken, in order
pub record State : Type 0 where
  pub progress : Progress
  pub fields : List Entry

abbrev pub state : Progress → List Entry → State
state w es = record { progress = w; fields = es }

abbrev pub with : State → Progress → State
with s w = state w s.fields

-- no refusal so far
unfoldable pub fine : State → Bool
fine s = refusal_number s.progress.refusal =? 0

-- with a refusal, or with that of a structure
abbrev pub stopped : Progress → Option Refusal → Progress
stopped w r = record { refusal = r; at = w.at; lines = w.lines; fields = w.fields }

abbrev pub refused : Progress → Refusal → Progress
refused w r = stopped w (Some r)

-- a thing that ends at `at` is read
abbrev pub read_to : Progress → ℕ → Progress
read_to w at = record { refusal = None; at = at; lines = w.lines; fields = w.fields }

-- the walk goes on after a line that ends at `at`; where it is refused it stays where the last structure
-- without fault ended
abbrev pub past_line : Progress → ℕ → Progress
past_line w at = record {
  refusal = w.refusal;
  at = when refusal_number w.refusal =? 0 then at
      else w.at;
  lines = w.lines;
  fields = w.fields;
}

-- the second, unless the first is a refusal
unfoldable pub and_then : State → State → State
and_then x y = when fine x then y else x

-- R6: what is at `place`, which is `at` or the byte after it, follows what ended at `at`, at once or after
-- one zero byte
unfoldable pub padded : List ℕ → ℕ → ℕ → Bool
padded im at place = when at =? place then true else byte_at im at =? 0

-- ---- a table's title

unfoldable pub take_title : Title → Progress → Progress
take_title t w = when refusal_number t.refusal =? 0 then read_to w t.end else stopped w t.refusal

-- ---- a line's head

-- R8: the first mark is at the first line only, and prev-line-ofs is the distance from the line before; n
-- lines of the table come before
unfoldable pub agrees : List ℕ → ℕ → ℕ → ℕ → Bool
agrees im n before p =
    when n =? 0 then first_at im p
    else when first_at im p then false
    else before + back_at im p =? p

-- R6, R7, R8: a line is where the one before leads and at the first odd place
unfoldable pub line_placed : List ℕ → ℕ → ℕ → ℕ → Progress → Bool
line_placed im n before p w = (p =? odd_from w.at) and (padded im w.at p and agrees im n before p)

-- 01, row 8: the 100th line of its table or the 1,025th of the walk is at fault; row 9: so is a bad password
unfoldable pub count_line : ℕ → Head → Progress → Progress
count_line n h w =
    when most_lines_of_table ≤? n then refused w fault.Limit
    else when most_lines ≤? w.lines then refused w fault.Limit
    else when h.typeable then record { refusal = None; at = h.end; lines = w.lines + 1; fields = w.fields }
    else refused w fault.Setting

unfoldable pub take_line : List ℕ → ℕ → ℕ → ℕ → Head → Progress → Progress
take_line im n before p h w =
    when refusal_number h.refusal =? 0
    then (when line_placed im n before p w then count_line n h w else refused w fault.Form)
    else stopped w h.refusal

-- ---- a component

abbrev pub entry_of : Field → Entry
entry_of f = record { place = f.image; from = f.sheet; size = size_of f }

-- 01, row 10: the sheet is not too long, and the field's bytes lie in it
unfoldable pub in_sheet : ℕ → Entry → Bool
in_sheet extent e = (extent ≤? longest_sheet) and room extent e.from.0 e.size

-- 01, row 11: two fields share no byte if either has none or one ends where the other begins or before
unfoldable pub apart : Entry → Entry → Bool
apart e f =
    when e.size =? 0 then true
    else when f.size =? 0 then true
    else when (e.from.0 + e.size) ≤? f.from.0 then true
    else (f.from.0 + f.size) ≤? e.from.0

-- a field shares no byte with any of the earlier ones
unfoldable pub apart_from : Entry → List Entry → Bool
apart_from e [] = true
apart_from e (f ∷ fs) = apart e f and apart_from e fs

-- a field: 8 if there are as many as there may be (`most`: the code's array has room for no more), 9 for bad
-- settings, 10 and 11 for its bytes in the sheet
unfoldable pub take_field : ℕ → ℕ → Component → State → State
take_field extent most c s =
    when most ≤? s.progress.fields then with s (refused s.progress fault.Limit)
    else when refusal_number c.refusal =? 0 then
    (when in_sheet extent (entry_of c.field) then
    (when apart_from (entry_of c.field) s.fields then
    state (record { refusal = None; at = c.end; lines = s.progress.lines; fields = s.progress.fields + 1 })
    (s.fields ++ (entry_of c.field ∷ []))
    else with s (refused s.progress fault.Overlap))
    else with s (refused s.progress fault.Sheet))
    else with s (stopped s.progress c.refusal)

-- a component at a place: 6 first, then 7 for the padding before it
unfoldable pub take_component : List ℕ → ℕ → ℕ → ℕ → Component → State → State
take_component im extent most p c s =
    when refusal_number c.refusal =? 6 then with s (refused s.progress fault.Cut)
    else when padded im s.progress.at p then
    (when c.fielded then take_field extent most c s
    else when refusal_number c.refusal =? 0 then with s (read_to s.progress c.end)
    else with s (stopped s.progress c.refusal))
    else with s (refused s.progress fault.Form)

-- ---- the walk

module _ (im : List ℕ) (extent most : ℕ) where
  unfoldable pub on_component : ℕ → State → State
  on_component c s = take_component im extent most c (component_at im c) s

  unfoldable pub on_components : List ℕ → State → State
  on_components [] s = s
  on_components (c ∷ cs) s = and_then (on_component c s) (on_components cs (on_component c s))

  unfoldable pub on_head : ℕ → ℕ → ℕ → State → State
  on_head n before p s = with s (take_line im n before p (head_at im p) s.progress)

  unfoldable pub on_title : ℕ → State → State
  on_title t s = with s (take_title (title_at im t) s.progress)

  module _ (submenu : ℕ → State → State) where
    -- a line's submenu; the walk then goes on after the line
    unfoldable pub on_submenu : Head → State → State
    on_submenu h s = when h.submenu then with (submenu h.table.0 s)
        (past_line (submenu h.table.0 s).progress s.progress.at) else s

    unfoldable pub on_body : ℕ → State → State
    on_body p s = and_then (on_components (components_of im p) s)
        (on_submenu (head_at im p) (on_components (components_of im p) s))

    unfoldable pub on_line : ℕ → ℕ → ℕ → State → State
    on_line n before p s = and_then (on_head n before p s) (on_body p (on_head n before p s))

    -- the lines of a table from the nth on
    unfoldable pub on_lines : ℕ → ℕ → List ℕ → State → State
    on_lines n before [] s = s
    on_lines n before (p ∷ ps) s = and_then (on_line n before p s) (on_lines (n + 1) p ps
        (on_line n before p s))

  -- the table at a place; so many levels are left, its own among them. R15: a table too deep is 6 if its
  -- title is not all there, else 8
  unfoldable pub on_table : ℕ → ℕ → State → State
  on_table zero t s = and_then (on_title t s) (with (on_title t s) (refused (on_title t s).progress fault.Limit))
  on_table (suc left) t s = and_then (on_title t s) (on_lines (on_table left) 0 0 (lines_of im t)
      (on_title t s))

abbrev pub start : State
start = state (record { refusal = None; at = 0; lines = 0; fields = 0 }) []

-- the walk from the top table on
unfoldable pub walked : List ℕ → ℕ → State
walked im extent = on_table im extent most_fields deepest_table prolog_bytes start

-- 01, rows 2 to 5: the prolog
unfoldable pub prolog_refusal : List ℕ → Option Refusal
prolog_refusal im =
    when length im <? prolog_bytes then Some fault.Length
    else when longest_image <? length im then Some fault.Length
    else when (byte_at im 0 =? 0x43) and ((byte_at im 1 =? 0x4d) and (byte_at im 2 =? 0x46)) then
    (when (byte_at im 3 =? 0) and (byte_at im 4 =? 4) then
    (when (byte_at im 8 =? 0xff) and (byte_at im 9 =? 0xfe) then None else Some fault.Order)
    else Some fault.Version)
    else Some fault.Name

-- the refusal of an image for a sheet of so many bytes, with the fields that were taken
unfoldable pub checked : List ℕ → ℕ → State
checked im extent =
    when refusal_number (prolog_refusal im) =? 0 then walked im extent
    else with start (stopped start.progress (prolog_refusal im))

-- the refusal number, 0 for none
unfoldable pub refusal_of : List ℕ → ℕ → ℕ
refusal_of im extent = refusal_number (checked im extent).progress.refusal
