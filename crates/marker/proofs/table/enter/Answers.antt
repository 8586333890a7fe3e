-- By whether it has one byte, and a place in the table.
use mathlib.Core.Path.{sym, ap, ◌∙◌}
use Rattle.field.specs.declared.profile.Profile.{Profile}
use Rattle.marker.proofs.Tables.{field_set, field_out, field_other}
use Rattle.marker.proofs.table.enter.Goals as goal
use Rattle.marker.proofs.table.enter.Goals.{else-profile_of-eq1-via-then-profile_of-eq1+else-at-table, else-profile_of-eq1-via-else-profile_of-eq1}

pub returns-then-at-table : goal.returns-then-at-table
returns-then-at-table c = field_set c.args.f c.args.table.now (sym (ap (λ (r : Profile). r.bytes) c.profile_of.ensures) ∙ c.if-profile_of-eq1.true) c.if-at-table.true c.byte.ensures.0

pub returns-else-profile_of-eq1 : goal.returns-else-profile_of-eq1
returns-else-profile_of-eq1 c = elim c.else-profile_of-eq1.branch [
  | else-profile_of-eq1-via-then-profile_of-eq1+else-at-table w ↦
      field_out c.args.f c.args.table.now (sym (ap (λ (r : Profile). r.bytes) c.profile_of.ensures) ∙ w.if-profile_of-eq1.true) w.if-at-table.false
  | else-profile_of-eq1-via-else-profile_of-eq1 w ↦
      field_other c.args.f c.args.table.now (λ e. w.if-profile_of-eq1.false (ap (λ (r : Profile). r.bytes) c.profile_of.ensures ∙ e))
]
