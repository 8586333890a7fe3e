-- An option by its rows of the tables: one byte, after its three settings.
use Rattle.laws.specs.Choice.{when◌then◌else◌}
use Rattle.cmf.specs.Readers.{kind_at, sheet_place_at, default_place}
use Rattle.field.specs.Profiles.{profile_of}
use Rattle.cmf.proofs.component.option_field.Goals as goal

pub returns : goal.returns
unfolding kind_at sheet_place_at default_place profile_of when◌then◌else◌
returns c = simp (c.value_at.ensures, c.word_in.ensures.0)
