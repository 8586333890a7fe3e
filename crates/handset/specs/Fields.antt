-- The fields of an image, by their places.
use Rattle.std.specs.Prelude.{ℕ, List, []}
use Rattle.laws.specs.Choice.{when◌then◌else◌, ◌=?◌}
use Rattle.cmf.specs.Places.{field_places}
use Rattle.acceptance.specs.Check.{refusal_of}

-- the image places of an image's fields, in the order of the walk; none where image or sheet are refused
unfoldable pub places_listed : List ℕ → ℕ → List ℕ
places_listed im extent = when refusal_of im extent =? 0 then field_places im else []
