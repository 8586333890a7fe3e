-- At a trigger's code the definition comes to a trigger without a place.
use Rattle.laws.specs.Choice.{when◌then◌else◌}
use Rattle.cmf.specs.Readers.{kind_at, sheet_place_at}
use Rattle.field.specs.Profiles.{profile_of}
use Rattle.cmf.proofs.component.Component.refused.Goals as goal

pub returns : goal.returns
unfolding kind_at sheet_place_at profile_of when◌then◌else◌
returns c = rw c.trigger.ensures
