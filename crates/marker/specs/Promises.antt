-- What is promised of the marker, over the definitions that the contract of `mark` cites. `proofs/Promises`
-- proves it from the executor's promises alone: which fields an image has, their bytes and their defaults,
-- and demand 3. Each clause has a mark, as in `promises`: (theorem), or (by definition).
use Rattle.std.specs.Prelude.{ℕ, ◌+◌, ◌*◌, ◌%◌, ◌≤◌, ◌<◌, ◌≡◌, ◌≢◌, ◌↔◌, true, false, length}
use mathlib.Core.List.{List, [], ◌∷◌, map, Memᴰ}
use Rattle.laws.specs.Choice.{when◌then◌else◌, ◌=?◌}
use Rattle.laws.specs.Bytes.{byte_at}
use Rattle.field.specs.Values.{bytes_of}
use Rattle.field.specs.Sheet.{size_of, own_bytes}
use Rattle.field.specs.declared.kind.Format.{Format}
use Rattle.field.specs.declared.kind.Kind.{Kind}
use Rattle.field.specs.declared.kind.Kind.TheVariants.{Integer, Option}
use Rattle.field.specs.declared.record.Field.{Field}
use Rattle.cmf.specs.Limits.{most_fields}
use Rattle.cmf.specs.Places.{fields_of}
use Rattle.acceptance.specs.Check.{refusal_of}
use Rattle.handset.specs.Open.{open_refusal, open_sheet}
use Rattle.promises.specs.Demand3.{Candidate, end, visits_at}
use Rattle.marker.specs.Key.{questions_of}
use Rattle.marker.specs.Marking.{has_field, default_at, largest_byte, most_points, key_fits, mark_refusal}
use Rattle.marker.specs.Marking.{points_in, sum_of, marked, refusal_in, sums_in}
use Rattle.marker.specs.declared.key.Question.{Question}
use Rattle.marker.specs.declared.verdict.Verdict.{Verdict}
use Rattle.marker.specs.declared.verdict.Verdict.TheVariants as verdict
use Rattle.marker.specs.Answer.{Marked as marks}

-- ---- one-byte fields

-- R41: the kinds with one byte in the sheet: an integer that is not wide (`format_of`: dd, ddd, hh, sdd,
-- sddd), and an option
pub data OneByte : Kind → Type 0 where
  integer : (f : Format) → f.wide ≡ false → OneByte (Integer f)
  option : (items longest : ℕ) → OneByte (Option items longest)

-- a field of an image has one byte, at this place of the sheet
pub record ByteFieldAt (im : List ℕ) (p : ℕ) (f : Field) : Type 0 where
  pub known : Memᴰ f (fields_of im)
  pub one : size_of f ≡ 1
  pub place : f.sheet.0 ≡ p

-- some field does
pub record HasField (im : List ℕ) (p : ℕ) : Type 0 where
  pub field : Field
  pub here : ByteFieldAt im p field

-- ---- 02, No. 1: the causes of refusal 15

-- in a question
pub data QuestionFault (im : List ℕ) (q : Question) : Type 0 where
  -- no field of one byte is there
  no_field : (HasField im q.place.0 → ⊥) → QuestionFault im q
  -- the right byte is no byte
  no_byte : largest_byte < q.right → QuestionFault im q
  -- the right byte would count as blank
  default : (f : Field) → ByteFieldAt im q.place.0 f → bytes_of f.default ≡ q.right ∷ []
      → QuestionFault im q
  -- too many points
  points : most_points < q.points → QuestionFault im q

-- a number comes twice in a list
pub data Twice : List ℕ → Type 0 where
  here : {p : ℕ} {ps : List ℕ} → Memᴰ p ps → Twice (p ∷ ps)
  later : {p : ℕ} {ps : List ℕ} → Twice ps → Twice (p ∷ ps)

-- in a key
pub data KeyFault (im key : List ℕ) : Type 0 where
  -- one or two numbers are left over
  left_over : length key % 3 ≢ 0 → KeyFault im key
  -- a question has a fault
  question : (q : Question) → Memᴰ q (questions_of key) → QuestionFault im q → KeyFault im key
  -- two questions are about one place
  twice : Twice (map (λ (q : Question). q.place.0) (questions_of key)) → KeyFault im key

-- ---- verdicts

-- R42, over a field's own bytes in the sheet
pub data Judged (sheet : List ℕ) (f : Field) (right : ℕ) : Verdict → Type 0 where
  blank : own_bytes f sheet ≡ bytes_of f.default → Judged sheet f right verdict.Blank
  right : own_bytes f sheet ≢ bytes_of f.default → own_bytes f sheet ≡ right ∷ []
      → Judged sheet f right verdict.Right
  wrong : own_bytes f sheet ≢ bytes_of f.default → own_bytes f sheet ≢ right ∷ []
      → Judged sheet f right verdict.Wrong

-- a question before others: its points are in the sum of its verdict, and the other sums are without them
pub record CountsOnce (im sheet : List ℕ) (place right points : ℕ) (rest : List ℕ) : Type 0 where
  pub verdict : Verdict
  pub judged : refusal_of im (length sheet) ≡ 0 → (f : Field) → ByteFieldAt im place f
      → Judged sheet f right verdict
  pub here : sum_of im sheet (place ∷ right ∷ points ∷ rest) verdict ≡ points + sum_of im sheet rest verdict
  pub elsewhere : (v : Verdict) → v ≢ verdict
      → sum_of im sheet (place ∷ right ∷ points ∷ rest) v ≡ sum_of im sheet rest v

-- ---- the promises

pub record MarkerPromises (im : List ℕ) : Type 0 where
  -- (theorem) a field has one byte exactly if it is of one of these kinds
  pub kinds : (f : Field) → (size_of f ≡ 1) ↔ OneByte f.kind
  -- (theorem) the test of a place passes exactly if a one-byte field is there
  pub places : (p : ℕ) → (has_field p (fields_of im) ≡ true) ↔ HasField im p
  -- (theorem) and the default that its byte is compared with is that field's
  pub defaults : (extent : ℕ) → refusal_of im extent ≡ 0 → (p : ℕ) (f : Field) → ByteFieldAt im p f
      → bytes_of f.default ≡ default_at p (fields_of im) ∷ []
  -- (by definition) the number for image and sheet comes first (2 to 11: `Demand1`), then 15
  pub order : (extent : ℕ) (key : List ℕ)
      → mark_refusal im extent key
      ≡ (when refusal_of im extent =? 0 then (when key_fits (fields_of im) key then 0 else 15)
      else refusal_of im extent)
  -- (theorem) for an accepted image 15 is given exactly for No. 1's causes
  pub faults : (extent : ℕ) (key : List ℕ) → refusal_of im extent ≡ 0
      → (mark_refusal im extent key ≡ 15) ↔ KeyFault im key
  -- (by definition) a refusal has its number and no sums
  pub refused : (sheet key : List ℕ) → mark_refusal im (length sheet) key ≢ 0
      → (refusal_in (marked im sheet key) ≡ mark_refusal im (length sheet) key)
      × (sums_in (marked im sheet key) ≡ [])
  -- (by definition) otherwise the sums are given: right, wrong, blank
  pub given : (sheet key : List ℕ) → mark_refusal im (length sheet) key ≡ 0
      → (refusal_in (marked im sheet key) ≡ 0)
      × (sums_in (marked im sheet key)
      ≡ sum_of im sheet key verdict.Right ∷ sum_of im sheet key verdict.Wrong
      ∷ sum_of im sheet key verdict.Blank ∷ [])
  -- (theorem) they add up to the points in the key
  pub adds_up : (sheet key : List ℕ)
      → sum_of im sheet key verdict.Right + sum_of im sheet key verdict.Wrong
      + sum_of im sheet key verdict.Blank
      ≡ points_in (questions_of key)
  -- (theorem) each question counts in exactly one of them, by its field's byte
  pub once : (sheet : List ℕ) (place right points : ℕ) (rest : List ℕ)
      → CountsOnce im sheet place right points rest
  -- (theorem) R43: the points in a key that is not refused are at most those of a question for each field
  pub at_most : (extent : ℕ) (key : List ℕ) → mark_refusal im extent key ≡ 0
      → points_in (questions_of key) ≤ most_fields * most_points
  -- (by definition) R43: a key of no numbers gives no points
  pub none : (sheet : List ℕ) → refusal_of im (length sheet) ≡ 0 → marked im sheet [] ≡ marks.Sums 0 0 0
  -- (theorem) on the sheet as Open leaves it all points are blank
  pub opened : (sheet : List ℕ) (columns lines : ℕ) (key : List ℕ)
      → open_refusal im (length sheet) columns lines ≡ 0 → mark_refusal im (length sheet) key ≡ 0
      → marked im (open_sheet im sheet columns lines) key ≡ marks.Sums 0 0 (points_in (questions_of key))
  -- (theorem) sheets of one length that agree at the key's places get the same marks
  pub unread : (s t key : List ℕ) → length s ≡ length t
      → ((q : Question) → Memᴰ q (questions_of key) → byte_at s q.place.0 ≡ byte_at t q.place.0)
      → marked im s key ≡ marked im t key
  -- (theorem) with demand 3: two candidates whose finished visits are the same at each field of the key have
  -- the same marks; what they did elsewhere, and when, has no say
  pub candidates : (key : List ℕ) (a b : Candidate im)
      → ((q : Question) (f : Field) → Memᴰ q (questions_of key) → ByteFieldAt im q.place.0 f
      → visits_at a f.image.0 ≡ visits_at b f.image.0)
      → marked im (end a).sheet key ≡ marked im (end b).sheet key
