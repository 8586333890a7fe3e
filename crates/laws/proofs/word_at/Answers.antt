-- Each return is the case of the definition that the tests on its path choose.
use mathlib.Core.Path.{sym}
use native.Mathlib.Omega.{arith}
use Rattle.laws.proofs.Lists.{word_past}
use Rattle.laws.specs.Bytes.{word_at}
use Rattle.laws.proofs.word_at.Goals as goal

pub returns-then-at-s : goal.returns-then-at-s
unfolding word_at
returns-then-at-s c = omega (arith, c.byte_at.ensures, c.from_le_bytes.ensures)

pub returns-else-at-s : goal.returns-else-at-s
returns-else-at-s c = sym (word_past c.args.s.now c.args.at c.if-at-s.false)
