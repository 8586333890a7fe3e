-- The tag's lowest bit; dividing it by 1 first changes nothing.
use native.Mathlib.Nat.{div-one}
use Rattle.cmf.proofs.head.is_first.Goals as goal

pub returns : goal.returns
returns c = simp (div-one, c.byte_at.ensures)
