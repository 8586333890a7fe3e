-- What the callees ensure, put together.
use Rattle.cmf.proofs.component.component_read.Goals as goal

pub returns : goal.returns
returns c = simp (c.field_by-field.ensures, c.setting_refusal.ensures, c.settings_fit.ensures, c.is_editable.ensures, c.is_field.ensures)
