-- The loop: the texts that are left, from here on, end as all of them do.
use native.Mathlib.Omega.{arith}
use Prim.Native.Nat.{◌+◌, ◌-◌}
use mathlib.Core.Path.{◌≡◌, sym, ◌∙◌}
use Rattle.cmf.specs.Readers.{texts_from}
use Rattle.cmf.proofs.Turning.{texts_turn, texts_none, texts_cut}
use Rattle.cmf.proofs.text.read_texts.Goals as goal

pub returns-then-image-end : goal.returns-then-image-end
returns-then-image-end c = c.cut.ensures ∙ sym (texts_none c.args.image.now (c.args.count - c.loop.counter) c.loop.end c.loop.longest (omega arith) c.if-image-end.true) ∙ c.loop.invariant

pub overflow_cast-next : goal.overflow_cast-next
overflow_cast-next c = omega (arith, c.type_inv.image c.loop.end)

pub overflow_add-next-in-loop : goal.overflow_add-next-in-loop
overflow_add-next-in-loop c = omega (arith, c.type_inv.image c.loop.end)

pub returns-then-image-next : goal.returns-then-image-next
returns-then-image-next c =
    c.cut-then-image-next.ensures
    ∙ sym (texts_cut c.args.image.now (c.args.count - c.loop.counter) c.loop.end c.loop.longest (omega arith) c.if-image-end.false c.if-image-next.true) ∙ c.loop.invariant

pub loop-preserved : goal.loop-preserved
loop-preserved c =
    let left = c.args.count - c.loop.counter in
    let z : c.args.count - (c.loop.counter + 1) ≡ left - 1 = omega arith in
    rw (z, c.max-longest.ensures) (texts_turn c.args.image.now left c.loop.end c.loop.longest (omega arith) c.if-image-end.false c.if-image-next.false ∙ c.loop.invariant)

pub returns : goal.returns
unfolding texts_from
returns c = let z : c.args.count - c.loop.counter ≡ 0 = omega arith in rw z at c.loop.invariant
