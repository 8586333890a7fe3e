-- In a sitting no event 0 to 16 is refused, and no Draw of the right size: what is promised of the session
-- and the sheet that Open and the events after it lead to.
use Rattle.std.specs.Prelude.{ℕ, ◌*◌, ◌≤◌, ◌<◌, ◌≡◌, true, false, List, length}
use Rattle.session.specs.Answers.{is_refused}
use Rattle.session.specs.Events.{second}
use Rattle.session.specs.Fits.{session_fits}
use Rattle.handset.specs.Event.{event_refusal}
use Rattle.handset.specs.Draw.{draw_refusal}
use Rattle.journal.specs.Sitting.{Sitting, answer_to}

-- what is promised of a sitting on a display of this shape
pub record NothingRefused (im : List ℕ) (c l : ℕ) (t : Sitting) : Type 0 where
  -- the session fits, and is still for this display
  pub fits : session_fits im t.session ≡ true
  pub columns : t.session.columns ≡ c
  pub lines : t.session.lines ≡ l
  -- no event is refused, and its answer says so; a number that is no event gets 13
  pub events : (e : ℕ) → e ≤ second → event_refusal im (length t.sheet) t.session e ≡ 0
  pub answers : (e : ℕ) → e ≤ second → is_refused (answer_to im t e) ≡ false
  pub no_event : (e : ℕ) → second < e → event_refusal im (length t.sheet) t.session e ≡ 13
  -- nor is any Draw with a picture of the display's size
  pub draw : draw_refusal im (length t.sheet) t.session (c * l) ≡ 0
