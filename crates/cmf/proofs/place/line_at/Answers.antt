-- The loop: as many lines from here on as are left lead to the line that was asked for.
use native.Mathlib.Omega.{arith}
use Prim.Native.Nat.{◌-◌, ◌+◌}
use mathlib.Core.Path.{◌≡◌, ◌∙◌}
use Rattle.cmf.specs.Places.{line_from, line_at}
use Rattle.cmf.proofs.Turning.{line_turn}
use Rattle.cmf.proofs.place.line_at.Goals as goal

pub loop-preserved : goal.loop-preserved
loop-preserved c =
    let left = c.args.k - c.loop.counter in
    let z : c.args.k - (c.loop.counter + 1) ≡ left - 1 = omega arith in
    rw z (line_turn c.args.image.now left c.loop.p c.step_at-p.result.next.0 (omega arith) c.step_at-p.ensures.1 ∙ c.loop.invariant)

pub returns : goal.returns
unfolding line_from line_at
returns c = let z : c.args.k - c.loop.counter ≡ 0 = omega arith in rw z at c.loop.invariant ∙ rw c.read_title-p.ensures
