-- Demand 2: what is accepted, and what the calls then do. For the marks see `Promises`.
use Rattle.std.specs.Prelude.{ℕ, ◌+◌, ◌<◌, ◌≡◌, ◌↔◌, true, length, get_or, Option}
use mathlib.Core.List.{List, Memᴰ}
use Rattle.laws.specs.Bytes.{byte_at}
use Rattle.laws.specs.Parts.{part_at}
use Rattle.field.specs.Values.{bytes_of}
use Rattle.field.specs.Sheet.{size_of, own_bytes}
use Rattle.field.specs.declared.record.Field.{Field}
use Rattle.cmf.specs.Grammar.{InSheet, Holds, WellFormed}
use Rattle.cmf.specs.Readers.{item_place}
use Rattle.cmf.specs.Places.{fields_of}
use Rattle.acceptance.specs.Check.{refusal_of}
use Rattle.session.specs.Session.{no_level, opened}
use Rattle.session.specs.Fits.{shape_fits, session_fits, cursor_head}
use Rattle.session.specs.Answers.{answer_number, told_number}
use Rattle.session.specs.Step.{step_of, sheet_of}
use Rattle.session.specs.declared.session.Session.{Session}
use Rattle.picture.specs.Rows.{picture_of}
use Rattle.picture.specs.Cursor as cursor
use Rattle.picture.specs.declared.cursor.EditCursor.{EditCursor}
use Rattle.handset.specs.Open.{open_refusal, open_answer, open_sheet}
use Rattle.handset.specs.Event.{event_refusal, event_step, event_answer, event_sheet}
use Rattle.handset.specs.Draw.{draw_refusal, draw_cursor, drawn_picture}
use Rattle.handset.specs.OptionText.{items_in, ItemIs, text_refusal, text_span, text_place, option_text}
use Rattle.journal.specs.Rules.{field_at, IsField, Beside}
use Rattle.journal.specs.Sitting.{begun_with, next, played}
use Rattle.protected.specs.Protected.{OpenedByDigits, Unlocked}
use Rattle.promises.specs.Lines.{CursorsAgree}
use Rattle.promises.specs.Steps.{EventPromises}
use Rattle.promises.specs.Pictures.{DrawPromises}

-- a field of a well-formed image, with a sheet of so many bytes
pub record FieldPromises (im : List ℕ) (extent : ℕ) (w : WellFormed im extent) (f : Field) : Type 0 where
  -- (theorem) it is what is read at its image place, so that what is promised of every `IsField` holds of it
  pub named : (field_at im f.image.0 ≡ f) × IsField im f.image.0
  -- (by definition) its bytes lie in the sheet, which is not too long
  pub inside : InSheet extent f
  -- (theorem) none of them is also another field's
  pub alone : (g : Field) → Memᴰ g w.fields → (x : ℕ) → Holds f x → Holds g x → f ≡ g
  -- (theorem) its default has as many bytes as it has in the sheet
  pub sized : length (bytes_of f.default) ≡ size_of f

-- what is accepted
pub record Accepts (im : List ℕ) : Type 0 where
  -- (theorem) an image is accepted, with a sheet of so many bytes, exactly when it is well formed
  pub accepted : (extent : ℕ) → (refusal_of im extent ≡ 0) ↔ WellFormed im extent
  -- (theorem) and Open accepts it with every shape that is allowed, and with no other
  pub open_accepts : (extent columns lines : ℕ)
      → (open_refusal im extent columns lines ≡ 0) ↔ ((shape_fits columns lines ≡ true)
      × WellFormed im extent)
  -- (theorem) its fields are those at the places that the walk reaches, in the walk's order
  pub listed : (extent : ℕ) (w : WellFormed im extent) → w.fields ≡ fields_of im
  -- where they lie, and their defaults
  pub every_field : (extent : ℕ) (w : WellFormed im extent) (f : Field) → Memᴰ f w.fields
      → FieldPromises im extent w f

-- an Open that is not refused
pub record OpenDone (im sheet : List ℕ) (columns lines : ℕ) : Type 0 where
  -- (by definition) has the number 0
  pub tells : (open_answer im (length sheet) columns lines).refusal ≡ 0
  -- (by definition) shows the top table at its first line
  pub shows : (open_answer im (length sheet) columns lines).session ≡ opened columns lines
  -- (theorem) gives each field its default
  pub defaults : (q : ℕ) → IsField im q
      → own_bytes (field_at im q) (open_sheet im sheet columns lines) ≡ bytes_of (field_at im q).default
  -- (theorem) and writes nothing else
  pub nothing_else : (from n : ℕ) → Beside im from n
      → part_at from n (open_sheet im sheet columns lines) ≡ part_at from n sheet
  -- (theorem) the sheet keeps its length
  pub sheet_length : length (open_sheet im sheet columns lines) ≡ length sheet

-- an Event that is not refused
pub record EventDone (im sheet : List ℕ) (s : Session) (e : ℕ) : Type 0 where
  -- (by definition) is the step that 01's rules give: the session, the answer
  pub steps : event_step im sheet s e ≡ step_of im sheet s e
  -- (by definition) the number of that answer
  pub tells : event_answer im sheet s e ≡ answer_number (step_of im sheet s e).answer
  -- (by definition) the sheet
  pub stores : event_sheet im sheet s e ≡ sheet_of im sheet s e

-- a Draw that is not refused
pub record DrawDone (im sheet : List ℕ) (s : Session) (picture : List ℕ) : Type 0 where
  -- (by definition) gives the picture of 01's rules
  pub draws : drawn_picture im sheet s picture ≡ picture_of im sheet s
  -- (by definition) and the numbers of their edit cursor
  pub points : draw_cursor im (length sheet) s (length picture) ≡ cursor.edit_cursor im s

-- numbers settle the answers that they are of
pub record ToldApart : Type 0 where
  -- (theorem) no two answers of Event share a number, be it on two images
  pub events : (im sheet : List ℕ) (s : Session) (e : ℕ) (im' sheet' : List ℕ) (s' : Session) (e' : ℕ)
      → event_answer im sheet s e ≡ event_answer im' sheet' s' e'
      → (event_step im sheet s e).answer ≡ (event_step im' sheet' s' e').answer
  -- (theorem) none is cut where it is told in 32 bits
  pub whole : (im sheet : List ℕ) (s : Session) (e : ℕ)
      → told_number (event_step im sheet s e).answer ≡ event_answer im sheet s e
  -- (theorem) no two edit cursors share theirs
  pub cursors : (a b : Option EditCursor) → cursor.cursor_place a ≡ cursor.cursor_place b → a ≡ b

-- an option text
pub record OptionTexts (im : List ℕ) : Type 0 where
  -- (theorem) is given for each item of each option
  pub given : (extent : ℕ) (w : WellFormed im extent) (f : Field) → Memᴰ f w.fields
      → (item : ℕ) → item < items_in f.kind → text_refusal im extent f.image.0 item ≡ 0
  -- (theorem) and for nothing else
  pub only : (extent place item : ℕ) → text_refusal im extent place item ≡ 0
      → IsField im place × (item < items_in (field_at im place).kind)
  -- (by definition) the first item is after the option's ten bytes
  pub first_item : (place : ℕ) → item_place im place 0 ≡ place + 10
  -- (theorem) and each next one at the end of the one before it
  pub next_item : (extent place item : ℕ) → text_refusal im extent place item ≡ 0
      → item_place im place (item + 1) ≡ item_place im place item + 1 + byte_at im (item_place im place item)
  -- (by definition) the text is after its item's length byte, as long as that says
  pub place : (extent place item : ℕ) → text_refusal im extent place item ≡ 0
      → text_place im extent place item
      ≡ text_span 0 (item_place im place item + 1) (byte_at im (item_place im place item))
  -- (theorem) it is the item's own bytes, all of them in the image
  pub own : (extent place item : ℕ) → text_refusal im extent place item ≡ 0
      → ItemIs im place item (option_text im extent place item)

-- protected lines, in a sitting: Open, and then a list of events
pub record ProtectedLines (im sheet : List ℕ) (columns lines : ℕ) (es : List ℕ) : Type 0 where
  -- (theorem) a protected line opens its submenu only after its own digits
  pub only_by_digits : (e : ℕ) →
      let t = played im (begun_with im sheet columns lines) es in
      (cursor_head im t.session.here).protected ≡ true → t.session.outer < (next im t e).session.outer
      → OpenedByDigits im (begun_with im sheet columns lines) es e t.session.outer t.session.here
  -- (theorem) so each protected line above the shown table was opened so, and the session has stayed below it
  pub each_above : (k : ℕ) →
      let s = (played im (begun_with im sheet columns lines) es).session in
      let l = get_or s.above k no_level in
      k < s.outer → (cursor_head im l).protected ≡ true
      → Unlocked im (begun_with im sheet columns lines) es k l

-- an image is accepted exactly when it is well formed, and then the calls go by 01's rules
pub record Demand2 (im : List ℕ) : Type 0 where
  pub accepts : Accepts im
  -- the rules read lines as the grammar has them: see `Lines`
  pub reads : (extent : ℕ) → WellFormed im extent → (s : Session) → session_fits im s ≡ true
      → CursorsAgree im s
  pub opens : (sheet : List ℕ) (columns lines : ℕ)
      → open_refusal im (length sheet) columns lines ≡ 0 → OpenDone im sheet columns lines
  pub steps : (sheet : List ℕ) (s : Session) (e : ℕ)
      → event_refusal im (length sheet) s e ≡ 0 → EventDone im sheet s e
  pub draws : (sheet : List ℕ) (s : Session) (picture : List ℕ)
      → draw_refusal im (length sheet) s (length picture) ≡ 0 → DrawDone im sheet s picture
  pub texts : OptionTexts im
  pub told_apart : ToldApart
  -- what no event does, refused or not: see `Steps`
  pub every_event : (sheet : List ℕ) (s : Session) (e : ℕ) → EventPromises im sheet s e
  -- and no Draw: see `Pictures`
  pub every_draw : (sheet : List ℕ) (s : Session) (picture : List ℕ) → DrawPromises im sheet s picture
  pub protected : (sheet : List ℕ) (columns lines : ℕ) (es : List ℕ)
      → ProtectedLines im sheet columns lines es
