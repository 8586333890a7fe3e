-- Each return is the case of the definition that the tests on its path choose.
use Prim.Native.Nat.{◌+◌}
use mathlib.Core.Path.{sym, ◌∙◌}
use native.Mathlib.Omega.{arith}
use Rattle.laws.proofs.Cases.{if_lt, if_ge}
use Rattle.session.specs.Browsing.{first_for}
use Rattle.session.proofs.browse.first_for.Goals as goal

pub returns-then-cursor-first : goal.returns-then-cursor-first
unfolding first_for
returns-then-cursor-first c = sym (if_lt _ _ _ _ c.if-cursor-first.true)

pub returns-then-at-rows : goal.returns-then-at-rows
unfolding first_for
returns-then-at-rows c = sym (if_ge _ _ _ _ c.if-cursor-first.false ∙ if_lt c.args.cursor (c.args.first + c.args.rows) _ _ (omega arith))

pub returns : goal.returns
unfolding first_for
returns c = sym (if_ge _ _ _ _ c.if-cursor-first.false ∙ if_ge c.args.cursor (c.args.first + c.args.rows) _ _ (omega arith))
