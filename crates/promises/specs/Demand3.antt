-- Demand 3: whole sittings. Every clause is a theorem, for every image and every list of events.
use Rattle.std.specs.Prelude.{ℕ, ◌/◌, ◌%◌, ◌<◌, ◌≡◌, Bool, true, List, length}
use Rattle.laws.specs.Bytes.{byte_at}
use Rattle.laws.specs.Parts.{part_at}
use Rattle.laws.specs.Digits.{from_low}
use Rattle.field.specs.Calendar.{RealDate}
use Rattle.field.specs.Values.{bytes_of}
use Rattle.field.specs.Cells.{in_range}
use Rattle.field.specs.Sheet.{own_bytes}
use Rattle.field.specs.declared.kind.Kind.TheVariants.{Date}
use Rattle.handset.specs.Open.{open_refusal}
use Rattle.journal.specs.Journal.{all_visited, AllFinish, journal_of}
use Rattle.journal.specs.Rules.{field_at, rules_of, IsField, Beside, HoldsJournal}
use Rattle.journal.specs.Sitting.{Sitting, begun_with, played, answered_in, visits_in}
use Rattle.promises.specs.Unrefused.{NothingRefused}

-- a candidate: a sheet, a display and a list of events, with which Open accepts the image
pub record Candidate (im : List ℕ) : Type 0 where
  pub sheet : List ℕ
  pub columns : ℕ
  pub lines : ℕ
  pub events : List ℕ
  pub accepted : open_refusal im (length sheet) columns lines ≡ 0

module _ {im : List ℕ} (c : Candidate im) where
  -- after Open, and after the events
  abbrev pub start : Sitting
  start = begun_with im c.sheet c.columns c.lines

  abbrev pub end : Sitting
  end = played im start c.events

  -- the finished visits at a field, and the field's bytes at the end
  abbrev pub visits_at : ℕ → List (List ℕ)
  visits_at q = visits_in im start c.events q

  abbrev pub bytes_at : ℕ → List ℕ
  bytes_at q = own_bytes (field_at im q) end.sheet

pub record Demand3 (im : List ℕ) : Type 0 where
  -- after any list of events each field's bytes are the journal's
  pub journal : (c : Candidate im)
      → HoldsJournal im (end c).sheet (journal_of (rules_of im) (answered_in im (start c) c.events))
  -- so they are its default changed by its own finished visits one after another, whatever was done elsewhere
  pub visits : (c : Candidate im) (q : ℕ) → IsField im q
      → bytes_at c q ≡ all_visited (rules_of im) q (bytes_of (field_at im q).default) (visits_at c q)
  -- a visit is what its name says: its last key is an ENTER that stores, and no key before it does
  pub finishes : (c : Candidate im) (q : ℕ)
      → AllFinish (rules_of im) q (bytes_of (field_at im q).default) (visits_at c q)
  -- 02, No. 3: at the end each date is real: year, month and day of its bytes as one number
  pub dates : (c : Candidate im) (q : ℕ) → IsField im q → (long : Bool) → (field_at im q).kind ≡ Date long
      → RealDate long (from_low (bytes_at c q) / 65536) (from_low (bytes_at c q) / 256 % 256)
      (from_low (bytes_at c q) % 256)
  -- and in an image of bytes every field's number is in its range
  pub is_in_range : ((i : ℕ) → byte_at im i < 256) → (c : Candidate im) (q : ℕ) → IsField im q
      → in_range (field_at im q).kind (from_low (bytes_at c q)) ≡ true
  -- two candidates with the same finished visits at a field have the same bytes there, whatever else they did
  pub candidates : (a b : Candidate im) (q : ℕ) → IsField im q → visits_at a q ≡ visits_at b q
      → bytes_at a q ≡ bytes_at b q
  -- bytes of no field are as they were before Open
  pub beside : (c : Candidate im) (from n : ℕ) → Beside im from n
      → part_at from n (end c).sheet ≡ part_at from n c.sheet
  -- the sheet keeps its length
  pub sheet_length : (c : Candidate im) → length (end c).sheet ≡ length c.sheet
  -- no event 0 to 16, and no Draw of the right size, is refused on the way
  pub never_refused : (c : Candidate im) → NothingRefused im c.columns c.lines (end c)
