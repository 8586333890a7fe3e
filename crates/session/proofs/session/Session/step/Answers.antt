-- Each mode has its case.
use mathlib.Core.Path.{◌∙◌}
use Rattle.session.proofs.Visiting.{in_visit_lem, in_visit_sheet}
use Rattle.session.specs.Step.{step_in, sheet_in}
use Rattle.session.proofs.session.Session.step.Goals as goal

pub returns-in-Browsing : goal.returns-in-Browsing
unfolding step_in sheet_in
returns-in-Browsing c = record { value = simp (c.browse.ensures, c.in-Browsing.is); sheet_after = simp c.in-Browsing.is }

pub returns-in-Visit : goal.returns-in-Visit
returns-in-Visit c = record { value = c.visit.ensures.value ∙ in_visit_lem _ _ c.args.self _ _ c.in-Visit.is; sheet_after = c.visit.ensures.sheet_after ∙ in_visit_sheet _ _ c.args.self _ _ c.in-Visit.is }

pub returns-in-Password : goal.returns-in-Password
unfolding step_in sheet_in
returns-in-Password c = record { value = simp (c.enter_password.ensures, c.in-Password.is); sheet_after = simp c.in-Password.is }
