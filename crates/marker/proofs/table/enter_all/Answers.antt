-- The loop's invariant: with the places that are left entered, the table is the whole.
use mathlib.Core.Path.{sym, ◌∙◌}
use Rattle.marker.proofs.Tables.{entered_last, entered_none}
use Rattle.marker.proofs.table.enter_all.Goals as goal

pub loop-place-preserved : goal.loop-place-preserved
loop-place-preserved c = sym (entered_last _ _ _ _ _ c.in-Some.ensures.steps c.read_component.ensures c.enter.ensures) ∙ c.loop-place.invariant

pub returns : goal.returns
returns c = sym (entered_none c.args.image.now _ _ c.in-None.ensures.steps.0) ∙ c.loop-place.invariant
