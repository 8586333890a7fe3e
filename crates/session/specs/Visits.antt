-- 01, Keys, a visit: what a key makes of the working copy, and what follows from it for session and sheet.
use Rattle.std.specs.Prelude.{ℕ, List}
use Rattle.laws.specs.Choice.{when◌then◌else◌, ◌=?◌, ◌≤?◌}
use Rattle.field.specs.Profiles.{profile_of, cell_of}
use Rattle.keys.specs.Keys as key
use Rattle.field.specs.Sheet.{finished_in}
use Rattle.field.specs.declared.kind.Kind.{Kind}
use Rattle.field.specs.declared.kind.ImagePlace.{ImagePlace}
use Rattle.field.specs.declared.record.Field.{Field}
use Rattle.field.specs.declared.work.Work.{Work}
use Rattle.keys.specs.declared.press.Pressed.{Pressed}
use Rattle.keys.specs.declared.press.Outcome.{Outcome}
use Rattle.keys.specs.declared.press.Outcome.TheVariants as outcome
use Rattle.cmf.specs.Readers.{component_at}
use Rattle.cmf.specs.Places.{next_editable}
use Rattle.std.specs.Prelude.{Option}
use Rattle.std.specs.Prelude.{Some, None}
use Rattle.session.specs.Answers.{taken, flash, with_idle, browsing, in_visit}
use Rattle.session.specs.Browsing.{visit_at}
use Rattle.session.specs.Events.{last_digit_key, up, down, left, right, enter, second}
use Rattle.session.specs.declared.session.Session.{Session}
use Rattle.session.specs.declared.answer.Answer.TheVariants as answer
use Rattle.session.specs.declared.answer.Stepped.{Stepped}

-- each key has its rule in `keys`: the cursor keys and digits go by the rows of the kind and of the chosen
-- cell, ENTER by the kind; R26: POINT flashes
unfoldable pub pressed : Kind → Work → ℕ → Pressed
pressed k w e =
    when e =? up then key.up_key (profile_of k) (cell_of k w.cells w.at) w
    else when e =? down then key.down_key (profile_of k) (cell_of k w.cells w.at) w
    else when e =? left then key.left_key (profile_of k) (cell_of k w.cells w.at) w
    else when e =? right then key.right_key (profile_of k) (cell_of k w.cells w.at) w
    else when e =? enter then key.enter_key k w
    else when e ≤? last_digit_key then key.digit_key (profile_of k) (cell_of k w.cells w.at) w e
    else key.flash w

-- a visit is over: the next editable component of the line is visited, or editing ends
unfoldable pub moved_to : List ℕ → List ℕ → Session → Option ImagePlace → Session
moved_to im sheet s (Some p) = visit_at im sheet s p
moved_to im sheet s None = browsing s

unfoldable pub moved_on : List ℕ → List ℕ → Session → ℕ → Session
moved_on im sheet s p = moved_to im sheet s (next_editable im p)

-- what follows from a key's outcome with this working copy. The last ENTER stores, and R28: a trigger that is
-- passed by is no finished visit
unfoldable pub followed : List ℕ → List ℕ → Session → ImagePlace → Field → Work → Outcome → Stepped
followed im sheet s p f w outcome.Taken = taken (in_visit s p w)
followed im sheet s p f w outcome.Flash = flash s
followed im sheet s p f w outcome.NextPart = taken (in_visit s p w)
followed im sheet s p f w outcome.Done =
    record { session = moved_on im (finished_in f w sheet) s p.0; answer = answer.Finished p }
followed im sheet s p f w outcome.Fired = record { session = s; answer = answer.Fired p }
followed im sheet s p f w outcome.Passed = taken (moved_on im sheet s p.0)

-- the sheet changes only when a visit is finished, and only in the field's own bytes
unfoldable pub followed_sheet : List ℕ → Field → Work → Outcome → List ℕ
followed_sheet sheet f w outcome.Taken = sheet
followed_sheet sheet f w outcome.Flash = sheet
followed_sheet sheet f w outcome.NextPart = sheet
followed_sheet sheet f w outcome.Done = finished_in f w sheet
followed_sheet sheet f w outcome.Fired = sheet
followed_sheet sheet f w outcome.Passed = sheet

-- what the visited component at a place makes of a key
abbrev pub pressed_at : List ℕ → Session → ImagePlace → ℕ → Pressed
pressed_at im s p e = pressed (component_at im p.0).field.kind s.work e

-- a second is taken and changes nothing, the idle count included
unfoldable pub visit_step : List ℕ → List ℕ → Session → ImagePlace → ℕ → Stepped
visit_step im sheet s p e =
    when e =? second then taken s
    else followed im sheet (with_idle s 0) p (component_at im p.0).field (pressed_at im s p e).work
    (pressed_at im s p e).outcome

unfoldable pub visit_sheet : List ℕ → List ℕ → Session → ImagePlace → ℕ → List ℕ
visit_sheet im sheet s p e =
    when e =? second then sheet
    else followed_sheet sheet (component_at im p.0).field (pressed_at im s p e).work
    (pressed_at im s p e).outcome
