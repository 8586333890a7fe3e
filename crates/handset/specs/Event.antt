-- 01, The four calls: Event. A session comes in, and the next one goes out with an answer.
use Rattle.std.specs.Prelude.{ℕ, List, length}
use Rattle.laws.specs.Choice.{when◌then◌else◌, ◌=?◌, ◌≤?◌}
use Rattle.session.specs.Events.{second}
use Rattle.session.specs.Answers.{answer_number}
use Rattle.session.specs.Step.{step_of, sheet_of}
use Rattle.session.specs.declared.session.Session.{Session}
use Rattle.session.specs.declared.answer.Answer.TheVariants as answer
use Rattle.session.specs.declared.answer.Stepped.{Stepped}
use Rattle.handset.specs.Refusals.{◌before◌, ◌unless◌, session_refusal}

-- 01, Refusal numbers: 2 to 12, then 13 for an event above the last, which is a second
unfoldable pub event_refusal : List ℕ → ℕ → Session → ℕ → ℕ
event_refusal im extent s e = session_refusal im extent s before (13 unless (e ≤? second))

-- what a refusal gives: the session as it came, and the number
abbrev pub refused_with : Session → ℕ → Stepped
refused_with s k = record { session = s; answer = answer.Refused k }

-- the session and the answer: what the step of the session's mode gives
unfoldable pub event_step : List ℕ → List ℕ → Session → ℕ → Stepped
event_step im sheet s e =
    when event_refusal im (length sheet) s e =? 0 then step_of im sheet s e
    else refused_with s (event_refusal im (length sheet) s e)

-- the answer by its number and values
unfoldable pub event_answer : List ℕ → List ℕ → Session → ℕ → ℕ
event_answer im sheet s e = answer_number (event_step im sheet s e).answer

-- the sheet after Event: a refused Event alters no byte
unfoldable pub event_sheet : List ℕ → List ℕ → Session → ℕ → List ℕ
event_sheet im sheet s e = when event_refusal im (length sheet) s e =? 0 then sheet_of im sheet s e else sheet
