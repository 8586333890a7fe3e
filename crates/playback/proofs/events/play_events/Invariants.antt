-- The loop's invariant: nothing is refused from here on, and what is left to play and to note gives the whole.
use mathlib.Core.Path.{◌≡◌}
use lib.ListN.{drop}
use Rattle.laws.specs.Overwrite.{over}
use Rattle.journal.specs.Sitting.{sitting, played, answered_in}
use Rattle.playback.specs.Replay.{numbers_in}
use Rattle.playback.specs.Unrefused.{Unrefused}
use Rattle.playback.proofs.events.play_events.Given as goal

abbrev pub invariant-loop-i : goal.invariant-loop-i
invariant-loop-i l = record {
  good : Unrefused l.image (sitting l.last l.sheet);
  plays : played l.image (sitting l.last l.sheet) (drop l.i l.events) ≡ played l.image (sitting l.initial.last l.initial.sheet) l.events;
  notes : over l.answers l.i (numbers_in (answered_in l.image (sitting l.last l.sheet) (drop l.i l.events)))
      ≡ over l.initial.answers 0 (numbers_in (answered_in l.image (sitting l.initial.last l.initial.sheet) l.events));
}
