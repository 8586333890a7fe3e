-- Each return is the row of its code.
use mathlib.Core.Path.{◌∙◌}
use Rattle.laws.specs.Choice.{when◌then◌else◌}
use borrow.Author.Tests.{lt-leb, ne_eqb}
use Rattle.laws.proofs.Cases.{tests}
use Rattle.field.specs.Profiles.{profile_of}
use Rattle.cmf.specs.Readers.{kind_at, default_place, sheet_place_at}
use Rattle.cmf.proofs.Shortcuts.{short_integer, long_integer, trigger_field}
use Rattle.cmf.proofs.component.field_by.Goals as goal

pub returns-then-code-le4 : goal.returns-then-code-le4
returns-then-code-le4 c = c.field_of.ensures ∙ rw c.of_code.ensures (short_integer c.args.image.now c.args.at c.args.code c.if-code-le4.true)

pub returns-then-code-le10 : goal.returns-then-code-le10
returns-then-code-le10 c = c.field_of-then-code-le10.ensures ∙ rw c.of_code-then-code-le10.ensures (long_integer c.args.image.now c.args.at c.args.code c.if-code-le4.false c.if-code-le10.true)

pub returns-in-13 : goal.returns-in-13
unfolding kind_at sheet_place_at default_place profile_of when◌then◌else◌
returns-in-13 c = simp (c.field_of-in-13.ensures, c.counter_of.ensures, c.in-13.is)

pub returns-in-15 : goal.returns-in-15
unfolding kind_at sheet_place_at default_place profile_of when◌then◌else◌
returns-in-15 c = simp (c.field_of-in-15.ensures, c.in-15.is)

pub returns-in-16 : goal.returns-in-16
unfolding kind_at sheet_place_at default_place profile_of when◌then◌else◌
returns-in-16 c = simp (c.field_of-in-16.ensures, c.in-16.is)

pub returns-in-17 : goal.returns-in-17
unfolding kind_at sheet_place_at default_place profile_of when◌then◌else◌
returns-in-17 c = simp (c.field_of-in-17.ensures, c.in-17.is)

pub returns-in-18 : goal.returns-in-18
unfolding kind_at sheet_place_at default_place profile_of when◌then◌else◌
returns-in-18 c = simp (c.field_of-in-18.ensures, c.in-18.is)

pub returns-in-19 : goal.returns-in-19
unfolding kind_at sheet_place_at default_place profile_of when◌then◌else◌
returns-in-19 c = simp (c.field_of-in-19.ensures, c.byte_at.ensures, c.in-19.is)

pub returns-in_default : goal.returns-in_default
unfolding kind_at when◌then◌else◌
returns-in_default c = c.trigger.ensures ∙ rw c.sheet_place.ensures (trigger_field c.args.image.now c.args.at c.args.code (simp (lt-leb _ _ c.if-code-le10.false, ne_eqb _ _ c.requires.1) (search tests)))
