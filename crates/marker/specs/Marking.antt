-- 02, No. 1: what a sheet gets by a key. A question is about the byte of a one-byte field, which counts as
-- right, wrong or blank.
use Rattle.std.specs.Prelude.{ℕ, ◌+◌, ◌%◌, Bool, true, false, not, List, [], ◌∷◌, length, Result, Ok, Err}
use Rattle.laws.specs.Choice.{when◌then◌else◌, ◌and◌, ◌=?◌, ◌≤?◌}
use Rattle.laws.specs.Bytes.{byte_at}
use Rattle.field.specs.Values.{bytes_of}
use Rattle.field.specs.Sheet.{size_of}
use Rattle.field.specs.declared.record.Field.{Field}
use Rattle.cmf.specs.Refusals.{number}
use Rattle.cmf.specs.declared.refusal.Refusal.{Refusal}
use Rattle.cmf.specs.Places.{is_in, fields_of}
use Rattle.acceptance.specs.Check.{refusal_of}
use Rattle.handset.specs.Refusals.{◌before◌, ◌unless◌}
use Rattle.marker.specs.Key.{questions_of}
use Rattle.marker.specs.declared.key.Question.{Question}
use Rattle.marker.specs.declared.verdict.Verdict.{Verdict}
use Rattle.marker.specs.declared.verdict.Verdict.TheVariants as verdict
use Rattle.marker.specs.Answer.{Marked, Marked as marks}
use Rattle.marker.specs.declared.mark.Sums.{Sums}

-- ---- one-byte fields

-- R41: whether a field has one byte in the sheet, and has it at a place
unfoldable pub is_byte_at : ℕ → Field → Bool
is_byte_at p f = (f.sheet.0 =? p) and (size_of f =? 1)

-- whether one of these fields does
unfoldable pub has_field : ℕ → List Field → Bool
has_field p [] = false
has_field p (f ∷ fs) = when is_byte_at p f then true else has_field p fs

-- R41: the default of that field, the byte that Open writes; 0 where there is none
unfoldable pub default_at : ℕ → List Field → ℕ
default_at p [] = 0
default_at p (f ∷ fs) = when is_byte_at p f then byte_at (bytes_of f.default) 0 else default_at p fs

-- ---- 02, No. 1: refusal 15, with the fields of an image

-- the largest byte, and the most points of a question
abbrev pub largest_byte : ℕ
largest_byte = 255

abbrev pub most_points : ℕ
most_points = 255

module _ (fs : List Field) where
  -- a question, after those at earlier places: a one-byte field is at its place; the place is new; the right
  -- byte is one, and not the default; the points are not too many
  unfoldable pub question_fits : List ℕ → Question → Bool
  question_fits earlier q =
      has_field q.place.0 fs
      and (not (is_in q.place.0 earlier)
      and ((q.right ≤? largest_byte)
      and (not (q.right =? default_at q.place.0 fs)
      and (q.points ≤? most_points))))

  -- questions one after another
  unfoldable pub questions_fit : List ℕ → List Question → Bool
  questions_fit earlier [] = true
  questions_fit earlier (q ∷ qs) = question_fits earlier q and questions_fit (q.place.0 ∷ earlier) qs

  -- a key: its numbers make whole questions, and each of them fits
  unfoldable pub key_fits : List ℕ → Bool
  key_fits key = ((length key % 3) =? 0) and questions_fit [] (questions_of key)

-- R40: the refusal number, 0 for none: 2 to 11 for image and sheet, then 15
unfoldable pub mark_refusal : List ℕ → ℕ → List ℕ → ℕ
mark_refusal im extent key = refusal_of im extent before (15 unless key_fits (fields_of im) key)

-- ---- verdicts and sums

-- R42: the default counts as blank, the key's byte as right, any other as wrong, in range or not
unfoldable pub verdict_of : ℕ → ℕ → ℕ → Verdict
verdict_of default right byte =
    when byte =? default then verdict.Blank else (when byte =? right then verdict.Right else verdict.Wrong)

-- whether two verdicts are the same
abbrev pub same : Verdict → Verdict → Bool
same verdict.Right verdict.Right = true
same verdict.Right verdict.Wrong = false
same verdict.Right verdict.Blank = false
same verdict.Wrong verdict.Right = false
same verdict.Wrong verdict.Wrong = true
same verdict.Wrong verdict.Blank = false
same verdict.Blank verdict.Right = false
same verdict.Blank verdict.Wrong = false
same verdict.Blank verdict.Blank = true

module _ (fs : List Field) (sheet : List ℕ) where
  -- the verdict on a question
  unfoldable pub verdict_on : Question → Verdict
  verdict_on q = verdict_of (default_at q.place.0 fs) q.right (byte_at sheet q.place.0)

  -- what a question adds to the sum of a verdict: its points, or nothing
  unfoldable pub share : Verdict → Question → ℕ
  share v q = when same v (verdict_on q) then q.points else 0

  -- the sum of a verdict over questions
  unfoldable pub sum_for : Verdict → List Question → ℕ
  sum_for v [] = 0
  sum_for v (q ∷ qs) = share v q + sum_for v qs

-- the points in a key
unfoldable pub points_in : List Question → ℕ
points_in [] = 0
points_in (q ∷ qs) = q.points + points_in qs

-- ---- the answer

-- the sum of a verdict, by an image and a key
abbrev pub sum_of : List ℕ → List ℕ → List ℕ → Verdict → ℕ
sum_of im sheet key v = sum_for (fields_of im) sheet v (questions_of key)

-- the three sums; or the refusal number, and no sums
unfoldable pub marked : List ℕ → List ℕ → List ℕ → Marked
marked im sheet key =
    when mark_refusal im (length sheet) key =? 0
    then marks.Sums (sum_of im sheet key verdict.Right) (sum_of im sheet key verdict.Wrong)
    (sum_of im sheet key verdict.Blank)
    else marks.Refused (mark_refusal im (length sheet) key)

-- what the code answers, with a refusal by its number
abbrev pub as_marked : Result Sums Refusal → Marked
as_marked (Ok s) = marks.Sums s.right s.wrong s.blank
as_marked (Err r) = marks.Refused (number r)

-- the numbers of an answer: its refusal, 0 for none
unfoldable pub refusal_in : Marked → ℕ
refusal_in (marks.Sums right wrong blank) = 0
refusal_in (marks.Refused n) = n

-- and its sums, where it has some: right, wrong, blank
unfoldable pub sums_in : Marked → List ℕ
sums_in (marks.Sums right wrong blank) = right ∷ wrong ∷ blank ∷ []
sums_in (marks.Refused n) = []
