-- What holds of every Event, whatever image, sheet, session and event are: theorems over the definitions that
-- its contract cites. The rules, a definition for each key, say what it does; here is what none of them does.
use Rattle.std.specs.Prelude.{ℕ, ◌+◌, ◌≤◌, ◌≡◌, ◌⊎◌, false, List, length, set}
use Rattle.laws.specs.Bytes.{byte_at}
use Rattle.field.specs.declared.kind.ImagePlace.{ImagePlace}
use Rattle.session.specs.Events.{last_digit_key, second}
use Rattle.session.specs.Fits.{cursor_head}
use Rattle.session.specs.Answers.{answer_number, taken, with_idle}
use Rattle.session.specs.Passwords.{right_to}
use Rattle.session.specs.declared.session.Mode.TheVariants as mode
use Rattle.session.specs.declared.session.Session.{Session}
use Rattle.session.specs.declared.answer.Answer.TheVariants as answer
use Rattle.handset.specs.Event.{event_refusal, event_step, event_answer, event_sheet}

-- 01, Keys, password: the last digit of an entry, e, leads from s to browsing, z: not all digits are right
pub record EntryFails (im : List ℕ) (s : Session) (e : ℕ) (z : Session) : Type 0 where
  -- so many digits were typed before it
  pub before : ℕ
  pub entry : s.mode ≡ mode.Password before
  pub digit : e ≤ last_digit_key
  pub last : before + 1 ≡ byte_at im (cursor_head im s.here).password.0
  -- a session of the code has seven levels above the shown one in its array; a list could have any number
  pub wrong : length s.above ≡ 7
      → right_to im ((cursor_head im s.here).password.0 + 1) (set s.typed before e) (before + 1) ≡ false
  -- the idle count, the mode and the digits typed are new, and nothing else is
  pub after : z ≡ record {
    columns = s.columns;
    lines = s.lines;
    outer = s.outer;
    above = s.above;
    here = s.here;
    idle = 0;
    mode = mode.Browsing;
    work = s.work;
    typed = set s.typed before e;
  }

-- 01, Keys: what can't be done changes nothing but the idle count; else it is an entry that fails
abbrev pub Unchanged : List ℕ → Session → ℕ → Session → Type 0
Unchanged im s e z = (z ≡ with_idle s 0) ⊎ EntryFails im s e z

-- every clause is a theorem
pub record EventPromises (im sheet : List ℕ) (s : Session) (e : ℕ) : Type 0 where
  -- a flash changes nothing but the idle count, and what ends a password entry that fails
  pub flash : event_answer im sheet s e ≡ answer_number answer.Flash
      → Unchanged im s e (event_step im sheet s e).session
  -- it leaves the sheet
  pub flash_sheet : event_answer im sheet s e ≡ answer_number answer.Flash → event_sheet im sheet s e ≡ sheet
  -- so does every other answer but finished
  pub writes : ((p : ImagePlace) → event_answer im sheet s e ≡ answer_number (answer.Finished p) → ⊥)
      → event_sheet im sheet s e ≡ sheet
  -- and no answer goes with a sheet of another length
  pub sheet_length : length (event_sheet im sheet s e) ≡ length sheet
  -- any key that is not refused makes the idle count 0
  pub wakes : event_refusal im (length sheet) s e ≡ 0 → (e ≡ second → ⊥)
      → (event_step im sheet s e).session.idle ≡ 0
  -- a second in a visit is taken and changes nothing, the idle count included
  pub visit_second : event_refusal im (length sheet) s e ≡ 0 → e ≡ second
      → (p : ImagePlace) → s.mode ≡ mode.Visit p → event_step im sheet s e ≡ taken s
  -- and no second changes the sheet
  pub second_sheet : e ≡ second → event_sheet im sheet s e ≡ sheet
