-- The loop: the place is one of those from here on if it is one of all.
use native.Mathlib.Omega.{arith}
use Prim.Native.Nat.{◌+◌, ◌-◌}
use mathlib.Core.Path.{◌≡◌, sym, ◌∙◌}
use lib.ListN.{length}
use Rattle.cmf.specs.Places.{components_of}
use Rattle.cmf.proofs.Finding.{in_here, in_last, in_next, in_done}
use Rattle.cmf.proofs.place.is_on_line.Goals as goal

pub returns-then-c-place : goal.returns-then-c-place
unfolding components_of
returns-then-c-place c =
    let left = length c.args.image.now + 1 - c.loop.counter in
    sym (in_here c.args.image.now c.args.place left c.loop.c (omega arith) c.if-c-place.true) ∙ c.loop.invariant ∙ rw c.read_head-c.ensures

pub returns-then-k : goal.returns-then-k
unfolding components_of
returns-then-k c =
    let left = length c.args.image.now + 1 - c.loop.counter in
    sym (in_last c.args.image.now c.args.place left c.loop.c c.read_component-k.result (omega arith) c.if-c-place.false c.read_component-k.ensures c.if-k.true)
    ∙ c.loop.invariant ∙ rw c.read_head-c.ensures

pub loop-preserved : goal.loop-preserved
loop-preserved c =
    let n = length c.args.image.now + 1 in
    let left = n - c.loop.counter in
    let z : n - (c.loop.counter + 1) ≡ left - 1 = omega arith in
    rw z (in_next c.args.image.now c.args.place left c.loop.c c.read_component-k.result (omega arith) c.if-c-place.false c.read_component-k.ensures c.if-k.false ∙ c.loop.invariant)

pub returns-else-k : goal.returns-else-k
unfolding components_of
returns-else-k c =
    let left = length c.args.image.now + 1 - c.loop.counter in
    sym (in_done c.args.image.now c.args.place (left - 1) c.read_component-k.result.next.0 (omega arith))
    ∙ in_next c.args.image.now c.args.place left c.loop.c c.read_component-k.result (omega arith) c.if-c-place.false c.read_component-k.ensures c.if-k.false
    ∙ c.loop.invariant ∙ rw c.read_head-c.ensures
