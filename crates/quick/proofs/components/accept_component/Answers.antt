-- The padding before it, and the component.
use Rattle.quick.proofs.Accepting.{string_passes}
use Rattle.quick.proofs.components.accept_component.Goals as goal

pub returns-then-image-p-eq21 : goal.returns-then-image-p-eq21
returns-then-image-p-eq21 c = (rw c.requires.1 (c.is_padded_to_even.ensures.aligned c.if-not-is_padded_to_even.false), rw c.past.ensures (string_passes _ c.in_ok-string_end.ensures))
