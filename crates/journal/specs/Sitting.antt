-- A sitting: Open, and then one event after another, each with the session and the sheet that the call before
-- left.
use Rattle.std.specs.Prelude.{ℕ, List, [], ◌∷◌, length}
use Rattle.session.specs.declared.session.Session.{Session}
use Rattle.session.specs.declared.answer.Answer.{Answer}
use Rattle.handset.specs.Open.{open_answer, open_sheet}
use Rattle.handset.specs.Event.{event_step, event_sheet}
use Rattle.journal.specs.Journal.{Answered, answered, journal_of}
use Rattle.journal.specs.Rules.{rules_of}

-- what the calls hand on
pub record Sitting : Type 0 where
  pub session : Session
  pub sheet : List ℕ

abbrev pub sitting : Session → List ℕ → Sitting
sitting s sheet = record { session = s; sheet = sheet }

-- after Open; where it is refused the session is closed and the sheet as it was
unfoldable pub begun_with : List ℕ → List ℕ → ℕ → ℕ → Sitting
begun_with im sheet columns lines =
    sitting (open_answer im (length sheet) columns lines).session (open_sheet im sheet columns lines)

-- after an event, and what it answered; a refused event leaves both as they were
unfoldable pub next : List ℕ → Sitting → ℕ → Sitting
next im t e = sitting (event_step im t.sheet t.session e).session
    (event_sheet im t.sheet t.session e)

unfoldable pub answer_to : List ℕ → Sitting → ℕ → Answer
answer_to im t e = (event_step im t.sheet t.session e).answer

-- after a list of events
unfoldable pub played : List ℕ → Sitting → List ℕ → Sitting
played im t [] = t
played im t (e ∷ es) = played im (next im t e) es

-- the events with their answers, oldest first
unfoldable pub answered_in : List ℕ → Sitting → List ℕ → List Answered
answered_in im t [] = []
answered_in im t (e ∷ es) = answered e (answer_to im t e) ∷ answered_in im (next im t e) es

-- the finished visits of the field at a place, as the journal finds them, oldest first
unfoldable pub visits_in : List ℕ → Sitting → List ℕ → ℕ → List (List ℕ)
visits_in im t es q = (journal_of (rules_of im) (answered_in im t es)).visits q
