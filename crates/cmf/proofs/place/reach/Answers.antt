-- The walk: the line that is left to go to is found as the one asked for is.
use Prim.Native.Nat.{◌+◌, ◌-◌}
use mathlib.Core.Path.{◌≡◌, sym, ◌∙◌}
use native.Mathlib.Omega.{arith}
use Rattle.cmf.proofs.Finding.{reach_far, reach_last, reach_next, reach_here, reach_first}
use Rattle.cmf.proofs.place.reach.Goals as goal

pub returns-then-k-gt-MAX_TABLE_LINES : goal.returns-then-k-gt-MAX_TABLE_LINES
returns-then-k-gt-MAX_TABLE_LINES c = reach_far _ _ _ c.if-k-gt-MAX_TABLE_LINES.true

pub returns-then-h : goal.returns-then-h
returns-then-h c =
    let left = c.args.k - c.loop.counter in
    sym (reach_last _ (100 - c.args.k) left c.loop.p c.read_head-h.result (omega arith) c.read_head-h.ensures c.if-h.true) ∙ c.loop.invariant.1
    ∙ reach_first _ _ _ c.read_title-p.result c.read_title-p.ensures c.loop.invariant.0

pub loop-preserved : goal.loop-preserved
loop-preserved c =
    let left = c.args.k - c.loop.counter in
    let z : c.args.k - (c.loop.counter + 1) ≡ left - 1 = omega arith in
    (omega arith, rw z (reach_next _ (100 - c.args.k) left c.loop.p c.read_head-h.result (omega arith) c.read_head-h.ensures c.if-h.false ∙ c.loop.invariant.1))

pub returns : goal.returns
returns c =
    sym (reach_here _ (100 - c.args.k) (c.args.k - c.loop.counter) c.loop.p (omega arith) (omega arith)) ∙ c.loop.invariant.1
    ∙ reach_first _ _ _ c.read_title-p.result c.read_title-p.ensures c.loop.invariant.0
