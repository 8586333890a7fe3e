-- 01, The four calls: Open.
use Rattle.std.specs.Prelude.{ℕ, List, [], ◌∷◌, length}
use Rattle.laws.specs.Choice.{when◌then◌else◌, ◌=?◌}
use Rattle.field.specs.Sheet.{default_written}
use Rattle.field.specs.declared.record.Field.{Field}
use Rattle.cmf.specs.Places.{fields_of}
use Rattle.acceptance.specs.Check.{refusal_of}
use Rattle.session.specs.Session.{opened, closed}
use Rattle.session.specs.Fits.{shape_fits}
use Rattle.handset.specs.Refusals.{◌before◌, ◌unless◌}
use Rattle.handset.specs.declared.open.Opened.{Opened}

-- 01, Refusal numbers: the display's shape comes before image and sheet
unfoldable pub open_refusal : List ℕ → ℕ → ℕ → ℕ → ℕ
open_refusal im extent columns lines = (1 unless shape_fits columns lines) before refusal_of im extent

-- the refusal number, 0 for none, and the session: a closed one where it is refused
unfoldable pub open_answer : List ℕ → ℕ → ℕ → ℕ → Opened
open_answer im extent columns lines = record {
  refusal = open_refusal im extent columns lines;
  session = when open_refusal im extent columns lines =? 0 then opened columns lines else closed;
}

-- the defaults of fields written, one after another, and no other byte
unfoldable pub defaults_written : List Field → List ℕ → List ℕ
defaults_written [] s = s
defaults_written (f ∷ fs) s = defaults_written fs (default_written f s)

-- the sheet after Open: the default of each field of the image is written; a refused Open alters no byte
unfoldable pub open_sheet : List ℕ → List ℕ → ℕ → ℕ → List ℕ
open_sheet im s columns lines =
    when open_refusal im (length s) columns lines =? 0 then defaults_written (fields_of im) s else s
