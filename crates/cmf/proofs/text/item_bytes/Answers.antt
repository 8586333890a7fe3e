-- What the callees ensure, put together.
use lib.ListN.{length}
use mathlib.Core.Path.{sym, ◌∙◌}
use Prim.Native.Nat.{◌+◌, ◌≤◌}
use native.Mathlib.Omega.{arith}
use Rattle.laws.proofs.Cases.{if_lt}
use Rattle.cmf.proofs.Turning.{items_out, text_out}
use Rattle.cmf.proofs.text.item_bytes.Goals as goal

pub returns-then-place-image : goal.returns-then-place-image
returns-then-place-image c = c.text_bytes.ensures ∙ rw (c.item_place.ensures ∙ if_lt _ _ _ _ c.if-place-image.true)

pub returns : goal.returns
returns c = let p = c.args.place in
    let h : length c.args.image.now ≤ p + 10 = omega arith in
    sym (rw (items_out c.args.image.now c.args.item (p + 10) h) (text_out c.args.image.now (p + 10) h))
