-- From the top table, with nothing marked, to the end without doubt: the check refuses nothing.
use mathlib.Core.Path.{sym, ◌∙◌}
use Rattle.cmf.proofs.Numbers.{unrefused_number}
use Rattle.quick.proofs.AcceptingTables.{nothing_refused}
use Rattle.quick.proofs.accept.is_accepted.Goals as goal

pub returns : goal.returns
returns c = λ e. nothing_refused _ _ _ _ c.accept_table.result (sym c.is_some-2.ensures ∙ e) c.if-extent-gt-MAX_SHEET.false (rw c.prolog_refusal.ensures at (unrefused_number _ c.is_some.ensures c.if-is_some.false)) c.accept_table.ensures
