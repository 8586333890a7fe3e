-- The loop: what the components from here on show is left; while there is no mark, it is that of the components from here on.
use Prim.Native.Nat.{◌+◌, ◌-◌}
use mathlib.Core.Path.{◌≡◌, refl}
use native.Mathlib.Omega.{arith}
use lib.ListN.{length}
use Rattle.texts.proofs.Writing.{rest_start, rest_end}
use Rattle.picture.proofs.Lines.{data_last, data_next, data_done, mark_told, mark_next}
use Rattle.picture.proofs.line.put_data.Goals as goal

pub loop-init : goal.loop-init
loop-init c = let z : length c.args.image.now + 1 - 0 ≡ length c.args.image.now + 1 = omega arith in
    rw z (rest_start _ _ _, λ _. refl, tt)

pub shape_of-row-then-row-at : goal.shape_of-row-then-row-at
shape_of-row-then-row-at c = c.loop.invariant.0.size

pub returns-then-row-at : goal.returns-then-row-at
returns-then-row-at c = (rest_end c.loop.invariant.0 (λ h. absurd (omega arith)) (omega arith), c.loop.invariant.2)

pub returns-then-c : goal.returns-then-c
returns-then-c c = let n = length c.args.image.now + 1 - c.loop.counter in (data_last _ _ c.args.session.now n c.loop.p _ (omega arith) c.read_component-c.ensures c.loop.invariant.0 c.put_component-at.ensures c.if-c.true, rw c.mark_by-mark.ensures (mark_told c.args.image.now n c.loop.p c.read_component-c.result _ (omega arith) c.read_component-c.ensures c.loop.mark c.loop.invariant.1 c.loop.invariant.2))

pub loop-preserved : goal.loop-preserved
loop-preserved c =
    let n = length c.args.image.now + 1 - c.loop.counter in
    let z : length c.args.image.now + 1 - (c.loop.counter + 1) ≡ n - 1 = omega arith in
    rw z (data_next _ _ c.args.session.now n c.loop.p _ (omega arith) c.read_component-c.ensures c.loop.invariant.0 c.put_component-at.ensures c.if-c.false, rw c.mark_by-mark.ensures (mark_next c.args.image.now n c.loop.p c.read_component-c.result _ (omega arith) c.read_component-c.ensures c.loop.mark c.loop.invariant.1 c.if-c.false), rw c.mark_by-mark.ensures (mark_told c.args.image.now n c.loop.p c.read_component-c.result _ (omega arith) c.read_component-c.ensures c.loop.mark c.loop.invariant.1 c.loop.invariant.2))

pub returns : goal.returns
returns c = (rest_end c.loop.invariant.0 (λ h. data_done _ _ c.args.session.now (length c.args.image.now + 1 - c.loop.counter) c.loop.p (omega arith)) (omega (arith, c.min.ensures)), c.loop.invariant.2)
