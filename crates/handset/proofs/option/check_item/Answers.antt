-- The refusal of image and sheet, or else that of a place that is no reached option's or an item that it has not.
use mathlib.Core.Path.{◌≡◌, sym, ap, ◌∙◌}
use native.Mathlib.Omega.{arith}
use borrow.Author.Tests.{lt-ltb, le-ltb}
use Rattle.laws.proofs.Cases.{via, and_i, and_true, and_false}
use Rattle.cmf.specs.Refusals.{number, refusal_number}
use Rattle.cmf.proofs.Numbers.{number_positive}
use Rattle.handset.proofs.Ordering.{holding, failing}
use Rattle.handset.proofs.Finding.{refusal_bad, refusal_good}
use Rattle.handset.proofs.option.check_item.Goals as goal
use Rattle.handset.proofs.option.check_item.Goals.{else-is_reached-via-then-is_reached+else-item-items_in, else-is_reached-via-else-is_reached}

pub returns-in-Some : goal.returns-in-Some
returns-in-Some c =
    let e : refusal_number c.check-c.result.progress.refusal ≡ number c.in-Some.refusal = ap refusal_number c.in-Some.is in
    sym e ∙ refusal_bad c.args.image.now c.args.extent c.args.place c.args.item _ c.check-c.ensures.progress_value (λ z. omega (arith, number_positive c.in-Some.refusal, e, z))

pub returns-then-item-items_in : goal.returns-then-item-items_in
returns-then-item-items_in c =
    let a = c.args in
    sym (refusal_good a.image.now a.extent a.place a.item _ _ c.check-c.ensures.progress_value c.check-c.ensures.index_value (ap refusal_number c.in_default.is)
    ∙ holding 14 _ (and_i (via c.is_reached.ensures c.if-is_reached.true) (rw (← c.read_component.ensures, ← c.items_in.ensures) (lt-ltb _ _ c.if-item-items_in.true))))

pub returns : goal.returns
returns c =
    let a = c.args in
    sym (refusal_good a.image.now a.extent a.place a.item _ _ c.check-c.ensures.progress_value c.check-c.ensures.index_value (ap refusal_number c.in_default.is)
    ∙ failing 14 _ (elim c.else-is_reached.branch [
      | else-is_reached-via-then-is_reached+else-item-items_in w ↦
          and_true _ (via c.is_reached.ensures w.if-is_reached.true) ∙ rw (← w.read_component.ensures, ← w.items_in.ensures) (le-ltb _ _ w.if-item-items_in.false)
      | else-is_reached-via-else-is_reached w ↦ and_false _ (via c.is_reached.ensures w.if-is_reached.false)
    ]))
