-- Where image places are below 65,536 no answer's number is cut, and no two share one: each answer is found again from its number.
use Prim.Native.Nat.{ℕ, ◌+◌, ◌-◌, ◌<◌}
use mathlib.Core.Path.{◌≡◌, refl, sym, ap, ◌∙◌}
use mathlib.Core.Bool.{false, false≢true}
use native.Mathlib.Nat.{min-eq_left}
use native.Mathlib.Omega.{arith}
use Rattle.laws.specs.Choice.{when◌then◌else◌, ◌=?◌, ◌<?◌}
use Rattle.laws.proofs.Cases.{if_lt, if_ge, if_ne}
use Rattle.field.specs.declared.kind.ImagePlace.{ImagePlace}
use Rattle.session.specs.Answers.{finished_from, fired_from, refused_from, answer_number, most_place, told_number, is_refused}
use Rattle.session.specs.declared.answer.Answer.{Answer}
use Rattle.session.specs.declared.answer.Answer.TheVariants as answer

-- an answer whose place is below 65,536
abbrev pub Near : Answer → Type 0
Near answer.Taken = Unit {0}
Near answer.Flash = Unit {0}
Near (answer.Finished p) = p.0 < finished_from
Near (answer.Fired p) = p.0 < finished_from
Near (answer.Refused n) = Unit {0}

abbrev place : ℕ → ImagePlace
place n = record { 0 = n }

-- the answer with a number
abbrev answer_of : ℕ → Answer
answer_of n =
    when n =? 0 then answer.Taken
    else when n <? finished_from then answer.Flash
    else when n <? fired_from then answer.Finished (place (n - finished_from))
    else when n <? refused_from then answer.Fired (place (n - fired_from))
    else answer.Refused (n - refused_from)

again : (a : Answer) → Near a → answer_of (answer_number a) ≡ a
unfolding answer_number when◌then◌else◌
again answer.Taken h = refl
again answer.Flash h = refl
again (answer.Finished p) h =
    if_ne (finished_from + p.0) 0 _ _ (λ e. omega arith) ∙ if_ge (finished_from + p.0) finished_from _ _ (omega arith)
    ∙ if_lt (finished_from + p.0) fired_from _ _ (omega arith) ∙ ap (λ (n : ℕ). answer.Finished (place n)) (omega arith)
again (answer.Fired p) h =
    if_ne (fired_from + p.0) 0 _ _ (λ e. omega arith) ∙ if_ge (fired_from + p.0) finished_from _ _ (omega arith)
    ∙ if_ge (fired_from + p.0) fired_from _ _ (omega arith) ∙ if_lt (fired_from + p.0) refused_from _ _ (omega arith)
    ∙ ap (λ (n : ℕ). answer.Fired (place n)) (omega arith)
again (answer.Refused k) h =
    if_ne (refused_from + k) 0 _ _ (λ e. omega arith) ∙ if_ge (refused_from + k) finished_from _ _ (omega arith)
    ∙ if_ge (refused_from + k) fired_from _ _ (omega arith) ∙ if_ge (refused_from + k) refused_from _ _ (omega arith)
    ∙ ap (λ (n : ℕ). answer.Refused n) (omega arith)

pub told_once : (a b : Answer) → Near a → Near b → answer_number a ≡ answer_number b → a ≡ b
told_once a b h k e = sym (again a h) ∙ ap answer_of e ∙ again b k

-- no number is cut
pub near_told : (a : Answer) → Near a → told_number a ≡ answer_number a
unfolding told_number answer_number
near_told answer.Taken h = refl
near_told answer.Flash h = refl
near_told (answer.Finished p) h = rw (min-eq_left {n = p.0} {m = most_place} (omega arith))
near_told (answer.Fired p) h = rw (min-eq_left {n = p.0} {m = most_place} (omega arith))
near_told (answer.Refused n) h = refl

-- a refusal's number is above all others
pub given_below : (a : Answer) → Near a → is_refused a ≡ false → answer_number a < refused_from
unfolding answer_number
given_below answer.Taken h g = omega arith
given_below answer.Flash h g = omega arith
given_below (answer.Finished p) h g = omega arith
given_below (answer.Fired p) h g = omega arith
given_below (answer.Refused n) h g = absurd (false≢true (sym g))
