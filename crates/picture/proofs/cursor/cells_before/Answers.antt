-- The loop: what is counted so far and the cells from here on are all of them, up to the end of counting.
use Prim.Native.Nat.{◌+◌, ◌-◌}
use native.Mathlib.Omega.{arith}
use mathlib.Core.Path.{◌≡◌, ◌∙◌}
use lib.ListN.{length}
use Rattle.cmf.specs.Places.{components_of}
use Rattle.picture.proofs.Counting.{before_here, before_last, before_next, before_done}
use Rattle.picture.proofs.cursor.cells_before.Goals as goal

pub loop-init : goal.loop-init
loop-init c = let z : length c.args.image.now + 1 - 0 ≡ length c.args.image.now + 1 = omega arith in rw z (omega arith, omega arith)

pub returns-then-p-place : goal.returns-then-p-place
unfolding components_of
returns-then-p-place c = before_here _ _ (length c.args.image.now + 1 - c.loop.counter) c.loop.p c.loop.sum (omega arith) c.if-p-place.true c.loop.invariant.0 ∙ c.loop.invariant.1 ∙ rw c.read_head-h.ensures

pub returns-then-c : goal.returns-then-c
unfolding components_of
returns-then-c c = before_last _ _ (length c.args.image.now + 1 - c.loop.counter) c.loop.p c.loop.sum _ _ _ (omega arith) c.if-p-place.false c.read_component-c.ensures c.width_at.ensures c.counted-sum.ensures c.if-c.true ∙ c.loop.invariant.1 ∙ rw c.read_head-h.ensures

pub loop-preserved : goal.loop-preserved
loop-preserved c =
    let n = length c.args.image.now + 1 - c.loop.counter in
    let z : length c.args.image.now + 1 - (c.loop.counter + 1) ≡ n - 1 = omega arith in
    rw z (omega (arith, c.counted-sum.ensures), before_next _ _ n c.loop.p c.loop.sum _ _ _ (omega arith) c.if-p-place.false c.read_component-c.ensures c.width_at.ensures c.counted-sum.ensures c.if-c.false ∙ c.loop.invariant.1)

pub returns : goal.returns
unfolding components_of
returns c = before_done _ _ (length c.args.image.now + 1 - c.loop.counter) c.loop.p c.loop.sum (omega arith) c.loop.invariant.0 ∙ c.loop.invariant.1 ∙ rw c.read_head-h.ensures
