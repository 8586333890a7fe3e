-- Demand 1: refusals. That every call ends with an answer, whatever it is given, needs no clause: its
-- function has a contract and asks for nothing. For the marks see `Promises`.
use Rattle.std.specs.Prelude.{ℕ, ◌*◌, ◌≡◌, ◌≢◌, ◌↔◌, false, List, [], length, None}
use Rattle.laws.specs.Choice.{when◌then◌else◌, ◌and◌, ◌=?◌, ◌<?◌, ◌≤?◌}
use Rattle.cmf.specs.Places.{field_places, is_in}
use Rattle.acceptance.specs.Check.{refusal_of}
use Rattle.acceptance.specs.Faults.{Refused}
use Rattle.session.specs.Session.{closed}
use Rattle.session.specs.Events.{second}
use Rattle.session.specs.Fits.{shape_fits, session_fits}
use Rattle.session.specs.Answers.{answer_number}
use Rattle.session.specs.declared.session.Session.{Session}
use Rattle.session.specs.declared.answer.Answer.TheVariants as answer
use Rattle.picture.specs.Cursor as cursor
use Rattle.handset.specs.Open.{open_refusal, open_answer, open_sheet}
use Rattle.handset.specs.Event.{event_refusal, refused_with, event_step, event_answer, event_sheet}
use Rattle.handset.specs.Draw.{draw_refusal, draw_cursor, drawn_picture}
use Rattle.handset.specs.OptionText.{items_in, text_refusal, text_span, text_place, option_text}
use Rattle.journal.specs.Rules.{field_at}

-- which number is given; of a sheet only the length is asked. `Refused` is defined apart from the check
-- (`refusal_of`): they share the byte accessors, `cmf` `Limits`, the formats, sizes and values of fields, and
-- the test of a field's settings
pub record Numbers (im : List ℕ) : Type 0 where
  -- (theorem) a bad image or sheet gets the number that 01's table fixes for it
  pub of_image : (extent k : ℕ) → ((refusal_of im extent ≡ k) × (k ≢ 0)) ↔ Refused im extent k
  -- (by definition) Open: 1 first, then 2 to 11
  pub of_open : (extent columns lines : ℕ)
      → open_refusal im extent columns lines
      ≡ (when shape_fits columns lines then refusal_of im extent else 1)
  -- (by definition) Event: 2 to 11, then 12, then 13
  pub of_event : (extent : ℕ) (s : Session) (e : ℕ)
      → event_refusal im extent s e
      ≡ (when refusal_of im extent =? 0
      then (when session_fits im s then (when e ≤? second then 0 else 13) else 12)
      else refusal_of im extent)
  -- (by definition) Draw: 2 to 11, then 12, and 1 last
  pub of_draw : (extent : ℕ) (s : Session) (n : ℕ)
      → draw_refusal im extent s n
      ≡ (when refusal_of im extent =? 0
      then (when session_fits im s then (when n =? s.columns * s.lines then 0 else 1) else 12)
      else refusal_of im extent)
  -- (by definition) Option text: 2 to 11, then 14
  pub of_text : (extent place item : ℕ)
      → text_refusal im extent place item
      ≡ (when refusal_of im extent =? 0
      then (when is_in place (field_places im) and (item <? items_in (field_at im place).kind) then 0 else 14)
      else refusal_of im extent)

-- a refused Open
pub record OpenRefused (im sheet : List ℕ) (columns lines : ℕ) : Type 0 where
  -- (by definition) tells its number
  pub tells : (open_answer im (length sheet) columns lines).refusal
      ≡ open_refusal im (length sheet) columns lines
  -- (by definition) gives a closed session
  pub closes : (open_answer im (length sheet) columns lines).session ≡ closed
  -- (by definition) alters no byte of the sheet
  pub keeps : open_sheet im sheet columns lines ≡ sheet

-- a refused Event
pub record EventRefused (im sheet : List ℕ) (s : Session) (e : ℕ) : Type 0 where
  -- (by definition) returns the session that it got, with its number
  pub returns : event_step im sheet s e ≡ refused_with s (event_refusal im (length sheet) s e)
  -- (by definition) tells it by a number of its own: DECISIONS, 2^24 and the refusal's
  pub tells : event_answer im sheet s e ≡ answer_number (answer.Refused (event_refusal im (length sheet) s e))
  -- (by definition) alters no byte of the sheet
  pub keeps : event_sheet im sheet s e ≡ sheet

-- a refused Draw, whose number `draw_refusal` is; it is lent the sheet for reading only
pub record DrawRefused (im sheet : List ℕ) (s : Session) (picture : List ℕ) : Type 0 where
  -- (by definition) has no edit cursor
  pub nowhere : draw_cursor im (length sheet) s (length picture) ≡ cursor.cursor_place None
  -- (by definition) alters no byte of the picture
  pub keeps : drawn_picture im sheet s picture ≡ picture

-- whatever a call refuses, it gives 01's number for it and changes nothing
pub record Demand1 (im : List ℕ) : Type 0 where
  pub numbers : Numbers im
  -- (theorem) a closed session never fits
  pub never_fits : session_fits im closed ≡ false
  pub refused_open : (sheet : List ℕ) (columns lines : ℕ)
      → open_refusal im (length sheet) columns lines ≢ 0 → OpenRefused im sheet columns lines
  pub refused_event : (sheet : List ℕ) (s : Session) (e : ℕ)
      → event_refusal im (length sheet) s e ≢ 0 → EventRefused im sheet s e
  pub refused_draw : (sheet : List ℕ) (s : Session) (picture : List ℕ)
      → draw_refusal im (length sheet) s (length picture) ≢ 0 → DrawRefused im sheet s picture
  -- (by definition) a refused Option text shows nothing of the image; it too is lent the sheet for reading
  -- only
  pub refused_text : (extent place item : ℕ)
      → text_refusal im extent place item ≢ 0 → option_text im extent place item ≡ []
  -- (by definition) and has 0 for place and length
  pub refused_place : (extent place item : ℕ) → text_refusal im extent place item ≢ 0
      → text_place im extent place item ≡ text_span (text_refusal im extent place item) 0 0
