-- Marking over C's buffers, by the marker's answer: one with sums is not refused, and a refusal has none.
use Prim.Native.Nat.{ℕ}
use mathlib.Core.Path.{◌≡◌, refl, sym, ap, ◌∙◌}
use mathlib.Core.List.{List, [], ◌∷◌}
use native.Mathlib.Omega.{arith}
use lib.ListN.{length, set}
use borrow.Author.Tests.{eqb-true, eqb-false}
use Rattle.laws.specs.Choice.{when◌then◌else◌, ◌=?◌}
use Rattle.laws.proofs.Cases.{by_test, if_true, if_false, if_eq, if_ne}
use Rattle.handset.specs.Refusals.{◌unless◌}
use Rattle.handset.proofs.Ordering.{first_given, next_given}
use Rattle.marker.specs.Marking.{mark_refusal, marked, refusal_in, sums_in}
use Rattle.marker.specs.Answer.{Marked}
use Rattle.marker.specs.Answer.{Marked as marks}
use Rattle.marker.proofs.Promises.{marker_promises}
use Rattle.binding.specs.Answers.{refused_by}
use Rattle.binding.specs.Desk.{sums_refusal, mark_number, marked_sums, refused_room}

-- three numbers are all that room for three holds
pub three_set : (l : List ℕ) (a b c : ℕ) → length l ≡ 3 → set (set (set l 0 a) 1 b) 2 c ≡ a ∷ b ∷ c ∷ []
three_set [] a b c h = absurd (omega arith)
three_set (x ∷ []) a b c h = absurd (omega arith)
three_set (x ∷ y ∷ []) a b c h = absurd (omega arith)
three_set (x ∷ y ∷ z ∷ []) a b c h = refl
three_set (x ∷ y ∷ z ∷ w ∷ l) a b c h = absurd (omega arith)

module _ (im sheet key sums : List ℕ) where
  -- an answer with sums
  module _ (a b c : ℕ) (e : ◌≡◌ {A = Marked} (marks.Sums a b c) (marked im sheet key)) where
    granted : mark_refusal im (length sheet) key ≡ 0
    unfolding sums_in
    granted =
        by_test (mark_refusal im (length sheet) key =? 0) (λ t. eqb-true _ 0 t)
        (λ t. absurd (omega (arith, ap (λ (m : Marked). length (sums_in m)) e, ap length ((marker_promises im).refused sheet key (eqb-false _ 0 t)).1)))

    room_only : sums_refusal im (length sheet) key (length sums) ≡ (when length sums =? 3 then 0 else 25)
    unfolding sums_refusal ◌unless◌
    room_only = next_given _ _ granted

    pub number_given : (r : ℕ) → r ≡ (when length sums =? 3 then 0 else refused_room) → r ≡ mark_number im (length sheet) key (length sums)
    unfolding mark_number refused_by
    number_given r h =
        by_test (length sums =? 3)
        (λ t. h ∙ if_true _ _ t ∙ sym (if_eq _ 0 _ _ (room_only ∙ if_true _ _ t)))
        (λ t. let k : sums_refusal im (length sheet) key (length sums) ≡ 25 = room_only ∙ if_false _ _ t in
        h ∙ if_false _ _ t ∙ sym (rw k (if_ne 25 0 _ _ (λ z. omega arith))))

    pub sums_given : (t : List ℕ) → t ≡ (when length sums =? 3 then a ∷ b ∷ c ∷ [] else sums) → t ≡ marked_sums im sheet key sums
    unfolding marked_sums sums_in
    sums_given t h =
        by_test (length sums =? 3)
        (λ q. h ∙ if_true _ _ q ∙ ap sums_in e ∙ sym (if_eq _ 0 _ _ (room_only ∙ if_true _ _ q)))
        (λ q. h ∙ if_false _ _ q ∙ sym (if_ne _ 0 _ _ (λ (z : sums_refusal im (length sheet) key (length sums) ≡ 0). omega (arith, sym (room_only ∙ if_false _ _ q) ∙ z))))

  -- a refusal
  module _ (k : ℕ) (e : ◌≡◌ {A = Marked} (marks.Refused k) (marked im sheet key)) where
    not_granted : mark_refusal im (length sheet) key ≡ 0 → ⊥
    unfolding sums_in
    not_granted z = omega (arith, ap (λ (m : Marked). length (sums_in m)) e, ap length ((marker_promises im).given sheet key z).1)

    number_is : sums_refusal im (length sheet) key (length sums) ≡ k
    unfolding sums_refusal refusal_in
    number_is = first_given _ _ not_granted ∙ sym ((marker_promises im).refused sheet key not_granted).0 ∙ sym (ap refusal_in e)

    some : sums_refusal im (length sheet) key (length sums) ≡ 0 → ⊥
    unfolding sums_refusal
    some z = not_granted (sym (first_given _ _ not_granted) ∙ z)

    pub number_refused : (r : ℕ) → r ≡ refused_by k → r ≡ mark_number im (length sheet) key (length sums)
    unfolding mark_number
    number_refused r h = h ∙ ap refused_by (sym number_is)

    pub sums_kept : sums ≡ marked_sums im sheet key sums
    unfolding marked_sums
    sums_kept = sym (if_ne _ 0 _ _ some)
