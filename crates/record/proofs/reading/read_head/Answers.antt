-- Each return is a case of the head: missing, another form, cut, whole.
use mathlib.Core.Path.{sym, ap, ◌∙◌}
use Rattle.std.proofs.Common.{ℕ, Option, ok_or}
use Rattle.std.proofs.lemmas.Result.{err_from_is_err_and}
use Rattle.cmf.specs.declared.refusal.Refusal.TheVariants as fault
use Rattle.record.specs.Heads.{head_of}
use Rattle.record.proofs.Steps.{head_missing, head_other, head_cut, head_whole}
use Rattle.record.proofs.reading.read_head.Goals as goal

pub returns-in_err-form : goal.returns-in_err-form
unfolding head_of
returns-in_err-form c =
    let p = err_from_is_err_and c.from_residual.result c.from_residual.ensures.1 in
    let e = c.in_err-form.ensures in
    rw (p.1, p.2) (e.value ∙ ap (λ (o : Option (ℕ × ℕ)). ok_or o fault.Record) e.ok_part ∙ sym (head_missing _ _ _ _ (sym c.read_number.ensures ∙ e.ok_part)))

pub returns-then-form-ne-FORM_1 : goal.returns-then-form-ne-FORM_1
unfolding head_of
returns-then-form-ne-FORM_1 c = sym (head_other _ _ _ _ _ _ (sym c.read_number.ensures ∙ c.in_ok-form.ensures.ok_part) c.if-form-ne-FORM_1.true)

pub returns-in_err-count : goal.returns-in_err-count
unfolding head_of
returns-in_err-count c =
    let p = err_from_is_err_and c.from_residual-in_err-count.result c.from_residual-in_err-count.ensures.1 in
    let e = c.in_err-count.ensures in
    rw (p.1, p.2)
    (e.value ∙ ap (λ (o : Option (ℕ × ℕ)). ok_or o fault.Record) e.ok_part
    ∙ sym (head_cut _ _ _ _ _ _ (sym c.read_number.ensures ∙ c.in_ok-form.ensures.ok_part) c.if-form-ne-FORM_1.false (sym c.read_number-2.ensures ∙ e.ok_part)))

pub returns : goal.returns
unfolding head_of
returns c =
    sym (head_whole _ _ _ _ _ _ (sym c.read_number.ensures ∙ c.in_ok-form.ensures.ok_part) c.if-form-ne-FORM_1.false _ _ (sym c.read_number-2.ensures ∙ c.in_ok-count.ensures.ok_part))
