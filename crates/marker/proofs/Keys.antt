-- The questions of a key, one after another: three numbers are dropped for each.
use Prim.Native.Nat.{ℕ, zero, suc, ◌+◌, ◌*◌, ◌/◌, ◌≤◌, ◌<◌}
use mathlib.Core.Path.{◌≡◌, refl, sym, ap, ◌∙◌}
use mathlib.Core.List.{List, [], ◌∷◌}
use native.Mathlib.Omega.{arith}
use lib.ListN.{length, get_or, drop, length-drop}
use lib.Seq.{drop-cons, drop-drop, get_or-drop}
use Rattle.marker.specs.Key.{question, questions_of, question_at}
use Rattle.marker.specs.declared.key.Question.{Question}

-- one or two numbers are no question
pub few : (l : List ℕ) → length l < 3 → questions_of l ≡ []
unfolding questions_of
few [] k = refl
few (p ∷ []) k = refl
few (p ∷ r ∷ []) k = refl
few (p ∷ r ∷ n ∷ l) k = absurd (omega arith)

-- three or more begin with one
pub first_question : (l : List ℕ) → 3 ≤ length l → questions_of l ≡ question (get_or l 0 0) (get_or l 1 0) (get_or l 2 0) ∷ questions_of (drop 3 l)
unfolding questions_of
first_question [] k = absurd (omega arith)
first_question (p ∷ []) k = absurd (omega arith)
first_question (p ∷ r ∷ []) k = absurd (omega arith)
first_question (p ∷ r ∷ n ∷ l) k = refl

-- a key without its first question
drop_question : (key : List ℕ) → questions_of (drop 3 key) ≡ drop 1 (questions_of key)
unfolding questions_of
drop_question [] = refl
drop_question (p ∷ []) = refl
drop_question (p ∷ r ∷ []) = refl
drop_question (p ∷ r ∷ n ∷ l) = refl

drop_questions : (i : ℕ) (key : List ℕ) → questions_of (drop (3 * i) key) ≡ drop i (questions_of key)
drop_questions zero key = refl
drop_questions (suc i) key =
    let a : 3 * suc i ≡ 3 * i + 3 = omega arith in
    let b : suc i ≡ i + 1 = omega arith in
    rw (a, b, ← drop-drop 3 (3 * i) key, ← drop-drop 1 i (questions_of key)) (drop_question (drop (3 * i) key) ∙ ap (drop 1) (drop_questions i key))

module _ (key : List ℕ) (i : ℕ) where
  -- the first three numbers of what is left
  three : i < length key / 3
      → drop (3 * i) key ≡ get_or key (3 * i) 0 ∷ get_or key (3 * i + 1) 0 ∷ get_or key (3 * i + 2) 0 ∷ drop (3 * (i + 1)) key
  three h =
      let a : suc (3 * i) ≡ 3 * i + 1 = omega arith in
      let b : suc (3 * i + 1) ≡ 3 * i + 2 = omega arith in
      let c : suc (3 * i + 2) ≡ 3 * (i + 1) = omega arith in
      let v : drop (suc (3 * i + 1)) key ≡ get_or key (3 * i + 2) 0 ∷ drop (3 * (i + 1)) key = rw (b, ← c) (drop-cons key (3 * i + 2) 0 (omega arith)) in
      let u : drop (suc (3 * i)) key ≡ get_or key (3 * i + 1) 0 ∷ drop (suc (3 * i + 1)) key = rw a (drop-cons key (3 * i + 1) 0 (omega arith)) in
      drop-cons key (3 * i) 0 (omega arith)
      ∙ ap (λ (l : List ℕ). get_or key (3 * i) 0 ∷ l) u
      ∙ ap (λ (l : List ℕ). get_or key (3 * i) 0 ∷ get_or key (3 * i + 1) 0 ∷ l) v

  -- are the next question
  next_question : i < length key / 3
      → questions_of (drop (3 * i) key) ≡ question (get_or key (3 * i) 0) (get_or key (3 * i + 1) 0) (get_or key (3 * i + 2) 0) ∷ questions_of (drop (3 * (i + 1)) key)
  unfolding questions_of
  next_question h = ap questions_of (three h)

  -- what is left at the end is no question
  pub no_question : length key / 3 ≤ i → questions_of (drop (3 * i) key) ≡ []
  no_question h = few (drop (3 * i) key) (omega (arith, length-drop (3 * i) key))

  -- so the ith question is read at three times i
  at_drop : (q : Question) → get_or (drop i (questions_of key)) 0 (question 0 0 0) ≡ q → q ≡ question_at key i
  unfolding question_at
  at_drop q h = let z : i + 0 ≡ i = omega arith in sym h ∙ get_or-drop i (questions_of key) 0 (question 0 0 0) ∙ rw z

  pub question_read : i < length key / 3 → question (get_or key (3 * i) 0) (get_or key (3 * i + 1) 0) (get_or key (3 * i + 2) 0) ≡ question_at key i
  question_read h = at_drop _ (ap (λ (l : List Question). get_or l 0 (question 0 0 0)) (sym (drop_questions i key) ∙ next_question h))

  pub question_past : length key / 3 ≤ i → question 0 0 0 ≡ question_at key i
  question_past h = at_drop _ (ap (λ (l : List Question). get_or l 0 (question 0 0 0)) (sym (drop_questions i key) ∙ no_question h))
