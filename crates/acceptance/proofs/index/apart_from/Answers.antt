-- The loop: the field is apart from the entries so far.
use native.Mathlib.Omega.{arith}
use mathlib.Core.Path.{◌≡◌, refl, sym}
use Rattle.acceptance.specs.Check.{apart_from}
use Rattle.acceptance.specs.Index.{listed}
use Rattle.laws.proofs.Cases.{via}
use Rattle.acceptance.proofs.CodeSteps.{apart_next, apart_bad}
use Rattle.acceptance.proofs.index.apart_from.Goals as goal

pub loop-i-init : goal.loop-i-init
unfolding apart_from listed
loop-i-init c = refl

pub returns-then-not-apart : goal.returns-then-not-apart
returns-then-not-apart c = sym (apart_bad c.args.e c.args.index.now c.loop-i.i c.args.k c.loop-i-test.true (rw c.entry_at.ensures at (via c.apart.ensures c.if-not-apart.true)))

pub loop-i-preserved : goal.loop-i-preserved
loop-i-preserved c = apart_next c.args.e c.args.index.now c.loop-i.i c.loop-i.invariant (rw c.entry_at.ensures at (via c.apart.ensures c.if-not-apart.false))

pub returns : goal.returns
returns c = let z : c.loop-i.i ≡ c.args.k = omega arith in rw (← z) (sym c.loop-i.invariant)
