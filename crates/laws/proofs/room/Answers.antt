-- Each return is the case of the definition that the tests on its path choose.
use native.Mathlib.Omega.{arith}
use mathlib.Core.Path.{sym, ◌∙◌}
use borrow.Author.Tests.{lt-leb}
use Rattle.laws.specs.Bytes.{room}
use Rattle.laws.proofs.Cases.{choices, if_gt}
use Rattle.laws.proofs.room.Goals as goal

pub returns-then-at-s : goal.returns-then-at-s
unfolding room
returns-then-at-s c = search (choices, arith)

pub returns-else-at-s : goal.returns-else-at-s
unfolding room
returns-else-at-s c = lt-leb _ _ c.if-at-s.false ∙ sym (if_gt _ _ _ _ c.if-at-s.false)
