-- What is promised of playing a record, over the definitions that the contract of `play` cites.
-- `proofs/Promises` proves it from what is promised of the executor and of records. Each clause has a mark,
-- as in `promises`: (theorem), or (by definition).
use Rattle.std.specs.Prelude.{ℕ, ◌≤◌, ◌≡◌, ◌≢◌, false, List, [], ◌∷◌, ◌++◌, length, take, drop}
use Rattle.laws.specs.Choice.{when◌then◌else◌, ◌=?◌, ◌≤?◌}
use Rattle.session.specs.Answers.{is_refused}
use Rattle.handset.specs.Open.{open_refusal}
use Rattle.journal.specs.Journal.{Answered, journal_of}
use Rattle.journal.specs.Rules.{rules_of, HoldsJournal}
use Rattle.journal.specs.Sitting.{Sitting, begun_with, played, answered_in}
use Rattle.promises.specs.Unrefused.{NothingRefused}
use Rattle.promises.specs.Demand3.{Candidate, end}
use Rattle.record.specs.Forms.{recording_refusal, recorded, recorded_in, record_refusal, events_of}
use Rattle.playback.specs.Replay.{play_refusal, numbers_in}
use Rattle.playback.specs.Replay.{refused_replay, play_answer, play_sheet, play_list}

-- no answer is a refusal
abbrev pub NoneRefused : List Answered → Type 0
NoneRefused [] = Unit {0}
NoneRefused (x ∷ xs) = (is_refused x.answer ≡ false) × NoneRefused xs

module _ (im sheet : List ℕ) (columns lines : ℕ) where
  -- events one after another after Open, with their answers
  abbrev pub after : List ℕ → Sitting
  after es = played im (begun_with im sheet columns lines) es

  abbrev pub answers : List ℕ → List Answered
  answers es = answered_in im (begun_with im sheet columns lines) es

  -- bytes that are played as a record give what these events give after Open
  pub record Gives (rec list es : List ℕ) : Type 0 where
    -- the number of events, and the session after them
    pub told : play_answer im sheet columns lines rec (length list)
        ≡ record { refusal = 0; events = length es; session = (after es).session }
    -- the sheet
    pub left : play_sheet im sheet columns lines rec (length list) ≡ (after es).sheet
    -- the answers' numbers, one for each event, at the start of the list; the rest of the list is as it was
    pub listed : play_list im sheet columns lines rec list
        ≡ numbers_in (answers es) ++ drop (length es) list
    pub each : length (numbers_in (answers es)) ≡ length es

  -- a refused replay: its number and no events, a closed session; sheet and list are as they were
  pub record Leaves (rec list : List ℕ) (k : ℕ) : Type 0 where
    pub told : play_answer im sheet columns lines rec (length list) ≡ refused_replay k
    pub left : play_sheet im sheet columns lines rec (length list) ≡ sheet
    pub listed : play_list im sheet columns lines rec list ≡ list

  -- the candidate whose events these are
  abbrev pub candidate : List ℕ → open_refusal im (length sheet) columns lines ≡ 0 → Candidate im
  candidate es o = record { sheet = sheet; columns = columns; lines = lines; events = es; accepted = o }

  -- a replay that is not refused
  pub record Replays (rec list : List ℕ) : Type 0 where
    -- (theorem, for the list; by definition, for the rest) it gives what its events give after Open
    pub gives : Gives rec list (events_of rec)
    -- (by definition) Open is not refused
    pub opened : open_refusal im (length sheet) columns lines ≡ 0
    -- (by definition) so it is the sitting of a candidate, of whom all of demand 3 holds
    pub sat : end (candidate (events_of rec) opened) ≡ after (events_of rec)
    -- (theorem) each field's bytes are the journal's, which is fed the record's events and their answers
    pub journal : HoldsJournal im (play_sheet im sheet columns lines rec (length list))
        (journal_of (rules_of im) (answers (events_of rec)))
    -- (theorem) R47: no event was refused
    pub answered : NoneRefused (answers (events_of rec))
    -- (theorem) the session fits: no event 0 to 16 would be refused next, and no Draw of the right size
    pub goes_on : NothingRefused im columns lines (after (events_of rec))

pub record PlaybackPromises (im : List ℕ) : Type 0 where
  -- (by definition) R45: the record's number first, then 25 for a list that is too short, then Open's
  pub order : (extent columns lines : ℕ) (rec : List ℕ) (room : ℕ)
      → play_refusal im extent columns lines rec room
      ≡ (when record_refusal rec =? 0
      then (when length (events_of rec) ≤? room then open_refusal im extent columns lines else 25)
      else record_refusal rec)
  -- (by definition) a refusal leaves sheet and list
  pub refused : (sheet : List ℕ) (columns lines : ℕ) (rec list : List ℕ)
      → play_refusal im (length sheet) columns lines rec (length list) ≢ 0
      → Leaves im sheet columns lines rec list (play_refusal im (length sheet) columns lines rec
      (length list))
  -- any other replay is Open and then the record's events
  pub replays : (sheet : List ℕ) (columns lines : ℕ) (rec list : List ℕ)
      → play_refusal im (length sheet) columns lines rec (length list) ≡ 0
      → Replays im sheet columns lines rec list
  -- (theorem) what was recorded is played as it was: with a list that is long enough the record of events
  -- gives what the events themselves give
  pub as_recorded : (sheet : List ℕ) (columns lines : ℕ) (es room list : List ℕ)
      → recording_refusal es (length room) ≡ 0 → open_refusal im (length sheet) columns lines ≡ 0
      → length es ≤ length list
      → Gives im sheet columns lines (take (recorded es (length room)).length (recorded_in es room)) list es
