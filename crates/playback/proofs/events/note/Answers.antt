-- A store is a list of one written over; past the end nothing is.
use mathlib.Core.Path.{sym}
use Rattle.laws.proofs.Storing.{over_one}
use Rattle.laws.proofs.Overwriting.{over_out}
use Rattle.playback.proofs.events.note.Goals as goal

pub returns-then-i-answers : goal.returns-then-i-answers
returns-then-i-answers c = over_one _ _ _ c.if-i-answers.true

pub returns-else-i-answers : goal.returns-else-i-answers
returns-else-i-answers c = sym (over_out _ _ _ c.if-i-answers.false)
