-- The loop's invariant: what is left to play, played from the present state, gives what all events give from the start.
use mathlib.Core.Path.{◌≡◌}
use lib.ListN.{drop}
use Rattle.journal.specs.Sitting.{sitting, played}
use Rattle.journal.proofs.sit.play.Given as goal

abbrev pub invariant-loop-e : goal.invariant-loop-e
invariant-loop-e l = played l.image (sitting l.last l.sheet) (drop l.e-index l.events) ≡ played l.image (sitting l.initial.last l.initial.sheet) l.events
