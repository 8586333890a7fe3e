-- The loop's invariant: marking what is left from here is marking all; the sums so far, with 255 points for each open place, have room; and as many numbers
-- will be left over as of the whole key.
use native.Mathlib.Omega.{arith}
use mathlib.Core.Path.{refl, sym, ap, ◌∙◌}
use borrow.Author.Tests.{eqb-true, eqb-false}
use Rattle.std.proofs.lemmas.Result.{err_from_is_err_and}
use Rattle.marker.specs.Answer.{Marked as marks}
use Rattle.marker.specs.Table.{sum_in}
use Rattle.marker.proofs.Marks.{fits_asked, unfits_asked, fits_open, stopped, none_over, some_over, stops_here, goes_on, room_left, after_three, still_over}
use Rattle.marker.proofs.mark.mark_all.Goals as goal

pub loop-rest-init : goal.loop-rest-init
unfolding sum_in
loop-rest-init c = record { marks = rw c.none-sums.ensures refl; room = omega (arith, c.requires, ap sum_in c.none-sums.ensures); over = refl }

pub returns-in_err-check_question : goal.returns-in_err-check_question
returns-in_err-check_question c =
    let a = c.args in
    let l = c.loop-rest in
    let p = err_from_is_err_and c.from_residual.result c.from_residual.ensures.1 in
    let u = unfits_asked _ c.in_err-check_question.field-0.0 c.in_err-check_question.ensures in
    rw (p.1, p.2) (ap marks.Refused u.1
    ∙ stopped a.table.now a.sheet.now a.key.now
    (sym (stops_here _ _ _ l.sums _ _ c.in-len3-up.len_at_least refl c.take_out-number.ensures.value u.0) ∙ l.invariant.marks))

pub judge-requires : goal.judge-requires
judge-requires c = (fits_open _ _ (fits_asked _ c.in_ok-check_question.ensures)).0

pub loop-rest-preserved : goal.loop-rest-preserved
loop-rest-preserved c =
    let l = c.loop-rest in
    let s = l.rest.now in
    let h = c.in-len3-up.len_at_least in
    let n = c.take_out-number.ensures in
    let fine = fits_asked _ c.in_ok-check_question.ensures in
    record {
      marks = sym (goes_on _ _ s l.sums _ _ h refl n.value fine n.table_after c.judge.ensures c.with-sums.ensures _ (after_three s)) ∙ l.invariant.marks;
      room = room_left _ c.args.sheet.now s l.sums _ _ h refl n.value fine n.table_after c.judge.ensures c.with-sums.ensures 65280 l.invariant.room;
      over = still_over s _ c.args.key.now h (after_three s) l.invariant.over;
    }

pub returns-then-not-is_empty : goal.returns-then-not-is_empty
returns-then-not-is_empty c =
    let l = c.loop-rest in
    some_over c.args.table.now c.args.sheet.now c.args.key.now l.table l.rest.now l.sums c.in_default.len_below l.invariant.over
    (eqb-false _ 0 (sym c.is_empty.ensures ∙ c.if-not-is_empty.true))

pub returns : goal.returns
returns c =
    let l = c.loop-rest in
    none_over c.args.table.now c.args.sheet.now c.args.key.now l.table l.rest.now l.sums c.in_default.len_below l.invariant.over l.invariant.marks
    (eqb-true _ 0 (sym c.is_empty.ensures ∙ c.if-not-is_empty.false))
