-- The invariant: the tables from here on fit exactly where all of them do. Each return is the case of the definition that the tests on its path choose.
use Rattle.cmf.proofs.Finding.{found_none, found_at}
use native.Mathlib.Omega.{arith}
use mathlib.Core.Path.{refl, sym, ◌∙◌}
use borrow.Author.Tests.{lt-ltb, le-ltb, not-true, not-false}
use Rattle.laws.proofs.Cases.{if_false, and_true, and_false}
use Rattle.session.proofs.Stepping.{level_bad, level_plain, level_next, level_last, head_there}
use Rattle.session.proofs.fits.shown_line.Goals as goal

pub returns-then-count-ge-MAX_DEPTH : goal.returns-then-count-ge-MAX_DEPTH
returns-then-count-ge-MAX_DEPTH c = sym (if_false _ _ (and_false _ (le-ltb _ _ c.if-count-ge-MAX_DEPTH.true)))

pub loop-i-init : goal.loop-i-init
loop-i-init c = (refl, omega (arith, c.well_formed.1.1.1.0.1.0.1))

pub returns-in_err-p : goal.returns-in_err-p
returns-in_err-p c = c.from_residual.ensures ∙ sym (if_false _ _ (and_true _ (lt-ltb _ _ c.if-count-ge-MAX_DEPTH.false) ∙ sym c.loop-i.invariant.0 ∙ level_bad c.args.image.now c.args.lines c.loop-i.t c.args.above c.loop-i.i c.args.outer c.args.here c.loop-i-test.true c.loop-i.invariant.1 (found_none _ c.in_err-p.ensures refl)))

pub returns-then-not-h : goal.returns-then-not-h
returns-then-not-h c = sym (if_false _ _ (and_true _ (lt-ltb _ _ c.if-count-ge-MAX_DEPTH.false) ∙ sym c.loop-i.invariant.0 ∙ level_plain c.args.image.now c.args.lines c.loop-i.t c.args.above c.loop-i.i c.args.outer c.args.here c.read_head-h.result c.loop-i-test.true c.loop-i.invariant.1 (found_at _ c.in_ok-p.ensures refl).0 (head_there _ _ _ _ c.read_head-h.result refl (found_at _ c.in_ok-p.ensures refl).1 c.read_head-h.ensures) (not-true c.read_head-h.result.submenu c.if-not-h.true)))

pub loop-i-preserved : goal.loop-i-preserved
loop-i-preserved c = (level_next c.args.image.now c.args.lines c.loop-i.t c.args.above c.loop-i.i c.args.outer c.args.here c.read_head-h.result c.loop-i-test.true c.loop-i.invariant.1 (found_at _ c.in_ok-p.ensures refl).0 (head_there _ _ _ _ c.read_head-h.result refl (found_at _ c.in_ok-p.ensures refl).1 c.read_head-h.ensures) (not-false c.read_head-h.result.submenu c.if-not-h.false) ∙ c.loop-i.invariant.0, c.loop-i.invariant.1)

pub returns : goal.returns
returns c = c.shown-2.ensures ∙ rw (sym (level_last c.args.image.now c.args.lines c.loop-i.t c.args.above c.loop-i.i c.args.outer c.args.here c.loop-i-test.false) ∙ c.loop-i.invariant.0 ∙ sym (and_true _ (lt-ltb _ _ c.if-count-ge-MAX_DEPTH.false)))
