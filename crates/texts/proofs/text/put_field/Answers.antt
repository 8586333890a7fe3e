-- An option is its one byte; a trigger is always in range.
use Rattle.texts.proofs.Texting.{field_option, field_trigger}
use Rattle.texts.proofs.text.put_field.Goals as goal

pub returns-in-Option : goal.returns-in-Option
returns-in-Option c = field_option _ _ _ c.args.field _ _ _ c.in-Option.is c.byte_at.ensures c.put_option.ensures

pub returns-in-Trigger : goal.returns-in-Trigger
returns-in-Trigger c = field_trigger _ _ _ c.args.field c.in-Trigger.is c.put_trigger.ensures
