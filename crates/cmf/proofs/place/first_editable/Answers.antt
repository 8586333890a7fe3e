-- The loop: the first of the components from here on is the first of all.
use native.Mathlib.Omega.{arith}
use Prim.Native.Nat.{◌+◌, ◌-◌}
use mathlib.Core.Path.{◌≡◌, sym, ◌∙◌}
use lib.ListN.{length}
use Rattle.cmf.proofs.Finding.{editable_here, editable_last, editable_next, editable_done}
use Rattle.cmf.proofs.place.first_editable.Goals as goal

pub returns-then-c : goal.returns-then-c
returns-then-c c =
    let left = length c.args.image.now + 1 - c.loop.counter in
    sym (editable_here _ left c.loop.p _ (omega arith) c.read_component-c.ensures c.if-c.true) ∙ c.loop.invariant

pub returns-then-c-2 : goal.returns-then-c-2
returns-then-c-2 c =
    let left = length c.args.image.now + 1 - c.loop.counter in
    sym (editable_last _ left c.loop.p _ (omega arith) c.read_component-c.ensures c.if-c.false c.if-c-2.true) ∙ c.loop.invariant

pub loop-preserved : goal.loop-preserved
loop-preserved c =
    let n = length c.args.image.now + 1 in
    let left = n - c.loop.counter in
    let z : n - (c.loop.counter + 1) ≡ left - 1 = omega arith in
    rw z (editable_next _ left c.loop.p _ (omega arith) c.read_component-c.ensures c.if-c.false c.if-c-2.false ∙ c.loop.invariant)

pub returns-else-c-2 : goal.returns-else-c-2
returns-else-c-2 c =
    let left = length c.args.image.now + 1 - c.loop.counter in
    sym (editable_done _ (left - 1) c.read_component-c.result.next.0 (omega arith))
    ∙ editable_next _ left c.loop.p _ (omega arith) c.read_component-c.ensures c.if-c.false c.if-c-2.false ∙ c.loop.invariant
