-- The four calls over bytes: each is the call of `handset` on the session that the bytes are.
use Rattle.std.specs.Prelude.{ℕ, ◌+◌, ◌*◌, List, length}
use Rattle.laws.specs.Choice.{when◌then◌else◌, ◌=?◌}
use Rattle.session.specs.Session.{closed}
use Rattle.session.specs.declared.session.Session.{Session}
use Rattle.session_bytes.specs.Layout.{session_size, session_bytes, session_from, session_written}
use Rattle.handset.specs.Refusals.{◌before◌, ◌unless◌}
use Rattle.handset.specs.Open.{open_refusal, open_answer, open_sheet}
use Rattle.handset.specs.Event.{event_refusal, event_step, event_answer}
use Rattle.handset.specs.Draw.{draw_refusal, draw_cursor}
use Rattle.handset.specs.OptionText.{text_refusal, text_place}
use Rattle.binding.specs.Answers.{refused_by, cursor_number}

-- ---- Open, with a session buffer of n bytes: one of another length is refused with 12, after all else

unfoldable pub open_number : List ℕ → ℕ → ℕ → ℕ → ℕ → ℕ
open_number im extent columns lines n =
    refused_by (open_refusal im extent columns lines before (12 unless (n =? session_size)))

unfoldable pub opened_sheet : List ℕ → List ℕ → ℕ → ℕ → ℕ → List ℕ
opened_sheet im sheet columns lines n =
    when n =? session_size then open_sheet im sheet columns lines else sheet

-- the session, closed where it is refused
unfoldable pub opened_bytes : List ℕ → ℕ → ℕ → ℕ → List ℕ → List ℕ
opened_bytes im extent columns lines bs =
    session_written (open_answer im extent columns lines).session bs

-- the session that the bytes then are, as Open gives it; no buffer of another length is a session that fits
unfoldable pub opened_session : List ℕ → ℕ → ℕ → ℕ → ℕ → Session
opened_session im extent columns lines n =
    when n =? session_size then (open_answer im extent columns lines).session else closed

-- ---- Event: the session that the bytes then are is that of `event_step`

unfoldable pub event_number : List ℕ → List ℕ → List ℕ → ℕ → ℕ
event_number im sheet bs e = event_answer im sheet (session_from bs) e

-- the next session; a refused Event leaves every byte of the session it got
unfoldable pub event_bytes : List ℕ → List ℕ → List ℕ → ℕ → List ℕ
event_bytes im sheet bs e =
    when event_refusal im (length sheet) (session_from bs) e =? 0
    then session_bytes (event_step im sheet (session_from bs) e).session
    else bs

-- ---- Draw, with a picture of n bytes

unfoldable pub draw_number : List ℕ → ℕ → List ℕ → ℕ → ℕ
draw_number im extent bs n =
    when draw_refusal im extent (session_from bs) n =? 0
    then cursor_number (draw_cursor im extent (session_from bs) n)
    else refused_by (draw_refusal im extent (session_from bs) n)

-- ---- Option text: where the item's own bytes begin in the image, and how many they are

-- a place is multiplied by this, so that the length of an item, a byte, fits below it
abbrev pub place_factor : ℕ
place_factor = 65536

-- and a refusal's number is added to this, which is above every place and length
abbrev pub text_refused_from : ℕ
text_refused_from = 4294967296

unfoldable pub text_number : List ℕ → ℕ → ℕ → ℕ → ℕ
text_number im extent place item =
    when text_refusal im extent place item =? 0
    then place_factor * (text_place im extent place item).start.0 + (text_place im extent place item).length
    else text_refused_from + text_refusal im extent place item
