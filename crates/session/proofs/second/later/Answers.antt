-- The smaller of the two.
use native.Mathlib.Omega.{arith}
use Rattle.session.specs.Seconds.{later}
use Rattle.session.proofs.second.later.Goals as goal

pub returns-then-idle-lt-MAX_IDLE : goal.returns-then-idle-lt-MAX_IDLE
unfolding later
returns-then-idle-lt-MAX_IDLE c = omega arith

pub returns : goal.returns
unfolding later
returns c = omega arith
