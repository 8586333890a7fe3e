-- By whether the place is that of the field.
use mathlib.Core.Path.{sym, ap, ◌∙◌}
use borrow.Author.Tests.{eq-eqb, ne_eqb}
use Rattle.laws.specs.Choice.{◌=?◌}
use Rattle.laws.proofs.Cases.{and_true, and_false}
use Rattle.field.specs.declared.profile.Profile.{Profile}
use Rattle.marker.specs.Marking.{is_byte_at}
use Rattle.marker.proofs.key.is_byte_at.Goals as goal

pub returns-then-f-place : goal.returns-then-f-place
unfolding is_byte_at
returns-then-f-place c = ap (λ (r : Profile). r.bytes =? 1) c.profile_of.ensures ∙ sym (and_true _ (eq-eqb _ _ c.if-f-place.true))

pub returns-else-f-place : goal.returns-else-f-place
unfolding is_byte_at
returns-else-f-place c = let e = ne_eqb _ _ c.if-f-place.false in e ∙ sym (and_false _ e)
