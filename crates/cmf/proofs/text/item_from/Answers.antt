-- The loop: the item that is left to go to is the one that was asked for.
use native.Mathlib.Omega.{arith}
use Prim.Native.Nat.{◌+◌, ◌-◌}
use mathlib.Core.Path.{◌≡◌, sym, ◌∙◌}
use Rattle.laws.specs.Bytes.{byte_at}
use Rattle.cmf.specs.Readers.{item_from}
use Rattle.cmf.proofs.Turning.{items_turn, items_out}
use Rattle.cmf.proofs.text.item_from.Goals as goal

pub returns-then-image-place : goal.returns-then-image-place
returns-then-image-place c = sym (items_out c.args.image.now (c.args.k - c.loop.counter) c.loop.place c.if-image-place.true) ∙ c.loop.invariant

pub loop-preserved : goal.loop-preserved
loop-preserved c =
    let left = c.args.k - c.loop.counter in
    let z : c.args.k - (c.loop.counter + 1) ≡ left - 1 = omega arith in
    let next : c.loop.place + (1 + c.byte_at.result) ≡ c.loop.place + 1 + byte_at c.args.image.now c.loop.place = omega (arith, c.byte_at.ensures) in
    rw (z, next) (items_turn c.args.image.now left c.loop.place (omega arith) c.if-image-place.false ∙ c.loop.invariant)

pub returns : goal.returns
unfolding item_from
returns c = let z : c.args.k - c.loop.counter ≡ 0 = omega arith in rw z at c.loop.invariant
