-- An option without fault, and its byte is marked.
use Rattle.quick.proofs.Accepting.{option_passes}
use native.Mathlib.Omega.{arith}
use Rattle.quick.proofs.run.take_option.Goals as goal

pub returns : goal.returns
returns c = rw c.fielded.ensures (option_passes _ c.in_ok-end.ensures c.word_in.ensures.0 (omega arith) (c.claim_byte.ensures.0 c.if-not-claim_byte.false))
