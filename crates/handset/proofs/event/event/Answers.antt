-- A refusal, or the step of the session's mode.
use mathlib.Core.Path.{◌≡◌, refl, ap, ◌∙◌}
use native.Mathlib.Omega.{arith}
use Rattle.cmf.specs.Refusals.{number}
use Rattle.cmf.proofs.Numbers.{number_positive}
use Rattle.session.specs.Answers.{answer_number}
use Rattle.session.specs.declared.answer.Stepped.{Stepped}
use Rattle.handset.specs.Event.{refused_with, event_step, event_answer}
use Rattle.handset.proofs.Stepping.{refused_step, refused_sheet, stepped, stepped_sheet}
use Rattle.handset.proofs.event.event.Goals as goal

pub returns-in-Err : goal.returns-in-Err
unfolding event_answer
returns-in-Err c =
    let a = c.args in
    let k = c.in-Err.ensures in
    let z : number c.in-Err.refusal ≡ 0 → ⊥ = λ e. omega (arith, number_positive c.in-Err.refusal, e) in
    let r : refused_with a.session c.number.result ≡ event_step a.image.now a.sheet.now a.session a.event = rw c.number.ensures (refused_step a.image.now a.sheet.now a.session a.event _ k z) in
    record {
      value = r;
      answer_value = ap (λ (x : Stepped). answer_number x.answer) r;
      sheet_after = refused_sheet a.image.now a.sheet.now a.session a.event _ k z;
    }

pub returns-in-Ok : goal.returns-in-Ok
unfolding event_answer
returns-in-Ok c =
    let a = c.args in
    let k = c.in-Ok.ensures in
    let r = c.step.ensures.value ∙ stepped a.image.now a.sheet.now a.session a.event _ k refl in
    record {
      value = r;
      answer_value = ap (λ (x : Stepped). answer_number x.answer) r;
      sheet_after = c.step.ensures.sheet_after ∙ stepped_sheet a.image.now a.sheet.now a.session a.event _ k refl;
    }
