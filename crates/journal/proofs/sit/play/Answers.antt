-- The loop's invariant: what is left to play, played from the present state, gives what all events give from the start.
use mathlib.Core.Path.{◌∙◌}
use Rattle.journal.proofs.Playing.{played_next, played_whole}
use Rattle.journal.proofs.sit.play.Goals as goal

pub loop-e-preserved : goal.loop-e-preserved
loop-e-preserved c = played_next c.args.image.now c.args.events.now _ _ _ _ _ c.loop-e-test.true c.event.ensures.value c.event.ensures.sheet_after ∙ c.loop-e.invariant

pub returns : goal.returns
returns c =
    let told = played_whole c.args.image.now c.args.events.now _ _ _ _ c.loop-e-test.false c.loop-e.invariant in
    record { value = told.0; sheet_after = told.1 }
