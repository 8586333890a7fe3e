-- Each arm is the case of the definition that its number chooses.
use mathlib.Core.Path.{sym, ◌∙◌}
use native.Mathlib.Omega.{arith}
use Rattle.laws.specs.Choice.{when◌then◌else◌}
use Rattle.laws.proofs.Cases.{if_ne, if_le, if_gt}
use Rattle.session.specs.Passwords.{entry_step}
use Rattle.session.proofs.session.Session.enter_password.Goals as goal

pub returns-in-16 : goal.returns-in-16
unfolding entry_step when◌then◌else◌
returns-in-16 c = simp (c.entry_second.ensures, c.in-16.is)

pub returns-in-13 : goal.returns-in-13
unfolding entry_step when◌then◌else◌
returns-in-13 c = simp (c.give_up.ensures, c.reset_idle-active.ensures, c.in-13.is)

pub returns-in-0-to-9 : goal.returns-in-0-to-9
unfolding entry_step
returns-in-0-to-9 c = let h = c.in-0-to-9.in_default-own in c.type_digit.ensures ∙ rw c.reset_idle-active.ensures (sym (if_ne _ 16 _ _ h.rest.0.1 ∙ if_ne _ 13 _ _ h.rest.1 ∙ if_le c.args.event 9 _ _ (omega arith)))

pub returns-in_default : goal.returns-in_default
unfolding entry_step
returns-in_default c = let h = c.in_default.in_default-own in c.flash.ensures ∙ rw c.reset_idle-active.ensures (sym (if_ne _ 16 _ _ h.rest.0.1 ∙ if_ne _ 13 _ _ h.rest.1 ∙ if_gt c.args.event 9 _ _ (omega arith)))
