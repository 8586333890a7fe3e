-- Nobody has to believe this file: what the loop over events asks for, which holds after a successful Open.
use Rattle.std.specs.Prelude.{ℕ, ◌≤◌, ◌≡◌, List, length}
use Rattle.session.specs.Events.{second}
use Rattle.handset.specs.Event.{event_refusal}
use Rattle.journal.specs.Sitting.{Sitting, played}

-- whatever events come, the next one is not refused
pub record Unrefused (im : List ℕ) (t : Sitting) : Type 0 where
  pub passes : (es : List ℕ) (e : ℕ) → e ≤ second
      → event_refusal im (length (played im t es).sheet) (played im t es).session e ≡ 0
