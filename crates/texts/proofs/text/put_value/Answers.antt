-- The sheet's value, or '#'.
use mathlib.Core.Path.{refl}
use Rattle.texts.proofs.Texting.{number_is, field_in, field_out}
use Rattle.texts.proofs.text.put_value.Goals as goal

pub returns-then-in_range : goal.returns-then-in_range
returns-then-in_range c = field_in _ _ _ c.args.field _ _ _ (number_is _ c.args.field _ _ _ c.profile_of.ensures c.load.ensures c.number-x.ensures) c.in_range.ensures c.if-in_range.true refl c.put_number.ensures

pub returns : goal.returns
returns c = field_out _ _ _ c.args.field _ _ _ (number_is _ c.args.field _ _ _ c.profile_of.ensures c.load.ensures c.number-x.ensures) c.in_range.ensures c.if-in_range.false c.width_of.ensures c.repeat.ensures
