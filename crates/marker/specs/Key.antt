-- 02, No. 1: a key. Each question is three of its numbers: where its byte is in the sheet, which byte is
-- right, and how many points it is worth.
use Rattle.std.specs.Prelude.{ℕ, List, [], ◌∷◌, get_or}
use Rattle.marker.specs.declared.key.Question.{Question}

abbrev pub question : ℕ → ℕ → ℕ → Question
question place right points = record { place = record { 0 = place }; right = right; points = points }

-- the questions of a key; one or two numbers left over make none
unfoldable pub questions_of : List ℕ → List Question
questions_of [] = []
questions_of (p ∷ []) = []
questions_of (p ∷ r ∷ []) = []
questions_of (p ∷ r ∷ n ∷ rest) = question p r n ∷ questions_of rest

-- the ith of them, counted from 0; zeros past the last
unfoldable pub question_at : List ℕ → ℕ → Question
question_at key i = get_or (questions_of key) i (question 0 0 0)
