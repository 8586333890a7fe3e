-- Nobody has to believe this file: the table that the code keeps of the places that a key may name, and
-- marking by it. The contract of `mark` cites `Marking` alone.
use Rattle.std.specs.Prelude.{ℕ, ◌+◌, ◌-◌, ◌%◌, Bool, false, List, [], ◌∷◌, length, get_or, set}
use Rattle.laws.specs.Choice.{when◌then◌else◌, ◌=?◌, ◌<?◌, ◌≤?◌}
use Rattle.laws.specs.Bytes.{byte_at}
use Rattle.field.specs.Values.{bytes_of}
use Rattle.field.specs.Sheet.{size_of}
use Rattle.field.specs.declared.record.Field.{Field}
use Rattle.cmf.specs.Readers.{component_at}
use Rattle.marker.specs.Key.{questions_of}
use Rattle.marker.specs.Marking.{largest_byte, most_points, verdict_of}
use Rattle.marker.specs.declared.key.Question.{Question}
use Rattle.marker.specs.declared.verdict.Verdict.{Verdict}
use Rattle.marker.specs.declared.verdict.Verdict.TheVariants as verdict
use Rattle.marker.specs.declared.mark.Sums.{Sums}
use Rattle.marker.specs.Answer.{Marked, Marked as marks}

-- ---- the table

-- a list with a number set, if it has that place
unfoldable pub set_at : ℕ → ℕ → List ℕ → List ℕ
set_at p n t = when p <? length t then set t p n else t

-- with a field entered, if it has one byte
unfoldable pub with_field : Field → List ℕ → List ℕ
with_field f t = when size_of f =? 1 then set_at f.sheet.0 (byte_at (bytes_of f.default) 0 + 1) t else t

-- with fields entered, the last of them first
unfoldable pub with_fields : List Field → List ℕ → List ℕ
with_fields [] t = t
with_fields (f ∷ fs) t = with_field f (with_fields fs t)

-- what is read at places
unfoldable pub fields_read : List ℕ → List ℕ → List Field
fields_read im [] = []
fields_read im (p ∷ ps) = (component_at im p).field ∷ fields_read im ps

-- how many places are open: those with another number than 0
unfoldable pub open_in : List ℕ → ℕ
open_in [] = 0
open_in (n ∷ t) = (when n =? 0 then 0 else 1) + open_in t

-- ---- marking by it

unfoldable pub fits_by : ℕ → Question → Bool
fits_by n q = when n =? 0 then false else (when largest_byte <? q.right then false
    else (when q.right + 1 =? n then false else q.points ≤? most_points))

abbrev pub tally : ℕ → ℕ → ℕ → Sums
tally right wrong blank = record { right = right; wrong = wrong; blank = blank }

abbrev pub no_points : Sums
no_points = tally 0 0 0

unfoldable pub sum_in : Sums → ℕ
sum_in y = y.right + y.wrong + y.blank

unfoldable pub counted : Verdict → ℕ → Sums → Sums
counted verdict.Right n y = tally (y.right + n) y.wrong y.blank
counted verdict.Wrong n y = tally y.right (y.wrong + n) y.blank
counted verdict.Blank n y = tally y.right y.wrong (y.blank + n)

-- question after question, up to the first that does not fit
unfoldable pub marked_by : List ℕ → List ℕ → List Question → Sums → Marked
marked_by t sheet [] y = marks.Sums y.right y.wrong y.blank
marked_by t sheet (q ∷ qs) y =
    when fits_by (get_or t q.place.0 0) q
    then marked_by (set_at q.place.0 0 t) sheet qs
    (counted (verdict_of (get_or t q.place.0 0 - 1) q.right (byte_at sheet q.place.0)) q.points y)
    else marks.Refused 15

-- the questions of a key, if its numbers make whole ones; else it is refused
unfoldable pub marked_all : List ℕ → List ℕ → List ℕ → Marked
marked_all t sheet key =
    when (length key % 3) =? 0 then marked_by t sheet (questions_of key) no_points else marks.Refused 15
