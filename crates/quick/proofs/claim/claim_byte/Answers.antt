-- A bit that was not set is set.
use mathlib.Core.Path.{sym}
use mathlib.Core.Bool.{false≢true}
use Rattle.quick.specs.Accept.{mark_at}
use Rattle.quick.proofs.Marks.{one_bit, has_mark, claimed_one}
use native.Mathlib.Omega.{arith}
use Rattle.quick.proofs.claim.claim_byte.Goals as goal

pub returns : goal.returns
unfolding mark_at
returns c = (λ _. claimed_one _ _ _ _ (omega (arith, c.requires)) (one_bit _ (omega arith)) (omega arith) (λ m. let q = has_mark _ _ (omega arith) m in omega arith), λ e. absurd (false≢true (sym e)))
