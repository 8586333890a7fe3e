-- The loop: the lines counted and those from here on are all of the table.
use native.Mathlib.Omega.{arith}
use mathlib.Core.Path.{◌≡◌, sym, ◌∙◌}
use Rattle.cmf.specs.Places.{lines_of, line_count}
use Rattle.cmf.proofs.Turning.{count_last, count_next, count_done}
use Rattle.cmf.proofs.place.line_count.Goals as goal

pub returns-then-h : goal.returns-then-h
unfolding line_count lines_of
returns-then-h c = sym (count_last c.args.image.now c.loop-n.n c.loop-n.p (omega arith) (sym c.if-h.true ∙ c.step_at-h.ensures.0)) ∙ c.loop-n.invariant ∙ rw c.read_title-p.ensures

pub loop-n-preserved : goal.loop-n-preserved
loop-n-preserved c = sym (count_next c.args.image.now c.loop-n.n c.loop-n.p c.step_at-h.result.next.0 (omega arith) (sym c.if-h.false ∙ c.step_at-h.ensures.0) c.step_at-h.ensures.1) ∙ c.loop-n.invariant

pub returns : goal.returns
unfolding line_count lines_of
returns c =
    let z : c.loop-n.n ≡ 100 = omega arith in
    sym (count_done c.args.image.now c.loop-n.n c.loop-n.p (omega arith) ∙ z) ∙ c.loop-n.invariant ∙ rw c.read_title-p.ensures
