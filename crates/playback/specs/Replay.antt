-- 02, No. 2: playing a record. It is Open, and then the record's events one after another (`journal`
-- `played`), with their answers by their numbers.
use Rattle.std.specs.Prelude.{ℕ, List, [], ◌∷◌, length}
use Rattle.laws.specs.Choice.{when◌then◌else◌, ◌=?◌, ◌≤?◌}
use Rattle.laws.specs.Overwrite.{over}
use Rattle.session.specs.Answers.{answer_number}
use Rattle.session.specs.Session.{closed}
use Rattle.handset.specs.Refusals.{◌before◌, ◌unless◌}
use Rattle.handset.specs.Open.{open_refusal}
use Rattle.journal.specs.Journal.{Answered}
use Rattle.journal.specs.Sitting.{Sitting, begun_with, played, answered_in}
use Rattle.record.specs.Forms.{Checked, record_refusal, events_of, start_of}
use Rattle.playback.specs.declared.play.Replayed.{Replayed}

-- ---- refusals

-- R45: the record's own number, then 25 where the list has fewer entries than there are events
unfoldable pub list_refusal : List ℕ → ℕ → ℕ
list_refusal rec room = record_refusal rec before (25 unless (length (events_of rec) ≤? room))

-- then Open's own
unfoldable pub play_refusal : List ℕ → ℕ → ℕ → ℕ → List ℕ → ℕ → ℕ
play_refusal im extent columns lines rec room =
    list_refusal rec room before open_refusal im extent columns lines

-- ---- what is played

-- the numbers of answers: 0 taken, 1 flash, 65,536 or 131,072 plus the place for finished or fired
unfoldable pub numbers_in : List Answered → List ℕ
numbers_in [] = []
numbers_in (x ∷ xs) = answer_number x.answer ∷ numbers_in xs

module _ (im sheet : List ℕ) (columns lines : ℕ) (rec : List ℕ) where
  -- the session and the sheet that the events give after Open
  abbrev pub replayed : Sitting
  replayed = played im (begun_with im sheet columns lines) (events_of rec)

  -- the numbers of their answers
  abbrev pub replay_numbers : List ℕ
  replay_numbers = numbers_in (answered_in im (begun_with im sheet columns lines) (events_of rec))

-- ---- the answer

-- what a refusal gives: its number, no events, and a closed session
abbrev pub refused_replay : ℕ → Replayed
refused_replay k = record { refusal = k; events = 0; session = closed }

-- the number of events and the session after them
unfoldable pub play_answer : List ℕ → List ℕ → ℕ → ℕ → List ℕ → ℕ → Replayed
play_answer im sheet columns lines rec room =
    when play_refusal im (length sheet) columns lines rec room =? 0
    then record {
      refusal = 0;
      events = length (events_of rec);
      session = (replayed im sheet columns lines rec).session;
    }
    else refused_replay (play_refusal im (length sheet) columns lines rec room)

-- the sheet afterwards; a refusal leaves it
unfoldable pub play_sheet : List ℕ → List ℕ → ℕ → ℕ → List ℕ → ℕ → List ℕ
play_sheet im sheet columns lines rec room =
    when play_refusal im (length sheet) columns lines rec room =? 0
    then (replayed im sheet columns lines rec).sheet
    else sheet

-- the lent list afterwards: it begins with the answers' numbers, and goes on as it was; a refusal leaves it
unfoldable pub play_list : List ℕ → List ℕ → ℕ → ℕ → List ℕ → List ℕ → List ℕ
play_list im sheet columns lines rec list =
    when play_refusal im (length sheet) columns lines rec (length list) =? 0
    then over list 0 (replay_numbers im sheet columns lines rec)
    else list

-- ---- what the code finds before Open

-- the refusal number, 0 for none; the number of events and where they begin, 0 where the record is refused
unfoldable pub listed : List ℕ → ℕ → Checked
listed rec room = record {
  refusal = list_refusal rec room;
  events = when list_refusal rec room =? 0 then length (events_of rec) else 0;
  start = when list_refusal rec room =? 0 then start_of rec else 0;
}
