-- Refusal 15 is given exactly for its causes: at the first question that does not fit there is one, and a cause makes some question not fit.
use Prim.Native.Nat.{ℕ}
use mathlib.Core.Path.{◌≡◌, refl, sym, ap, ◌∙◌}
use mathlib.Core.Logic.{◌⊎◌, inl, inr, ⊎_elim}
use mathlib.Core.Bool.{Bool, true, false, not, false≢true}
use mathlib.Core.List.Memᴰ
use mathlib.Core.List.{List, [], ◌∷◌, map, Memᴰ}
use native.Mathlib.Omega.{arith}
use lib.ListN.{get_or}
use borrow.Author.Tests.{not-true, eqb-true, eq-eqb, leb-true, leb-false}
use Rattle.laws.specs.Choice.{◌and◌, ◌=?◌, ◌≤?◌}
use Rattle.laws.proofs.Cases.{by_test, if_true, if_false, and_l, and_r, and_true}
use Rattle.cmf.specs.Places.{is_in, fields_of}
use Rattle.acceptance.specs.Check.{refusal_of}
use Rattle.marker.specs.Marking.{has_field, default_at, question_fits, questions_fit}
use Rattle.marker.specs.Promises.{Twice, QuestionFault}
use Rattle.marker.specs.declared.key.Question.{Question}
use Rattle.marker.proofs.Naming.{field_exactly, default_is}

-- a conjunction that fails, fails in a part
pub fails : (a b : Bool) → a and b ≡ false → (a ≡ false) ⊎ (b ≡ false)
unfolding ◌and◌
fails true b h = inr h
fails false b h = inl refl

is_not : {b : Bool} → b ≡ false → b ≡ true → ⊥
is_not f t = false≢true (sym f ∙ t)

-- the places of questions
abbrev places_of : List Question → List ℕ
places_of qs = map (λ (q : Question). q.place.0) qs

module _ (im : List ℕ) (extent : ℕ) (z : refusal_of im extent ≡ 0) where
  -- ---- one question, after those at earlier places

  -- a right byte that is the default is a fault
  right_default : (q : Question) → has_field q.place.0 (fields_of im) ≡ true → (q.right =? default_at q.place.0 (fields_of im)) ≡ true → QuestionFault im q
  right_default q n h =
      let m = (field_exactly im q.place.0).0 n in
      QuestionFault.default m.field m.here
      (default_is im extent z q.place.0 m.field m.here ∙ ap (λ (d : ℕ). d ∷ []) (sym (eqb-true q.right _ h)))

  question_fault : (earlier : List ℕ) (q : Question) → question_fits (fields_of im) earlier q ≡ false → QuestionFault im q ⊎ (is_in q.place.0 earlier ≡ true)
  unfolding question_fits
  question_fault earlier q h =
      by_test (has_field q.place.0 (fields_of im))
      (λ n. by_test (is_in q.place.0 earlier) inr
      (λ i. inl (by_test (q.right ≤? 255)
      (λ r. by_test (q.right =? default_at q.place.0 (fields_of im)) (right_default q n)
      (λ d. QuestionFault.points
      (leb-false q.points 255
      (sym (and_true _ n ∙ and_true _ (ap not i) ∙ and_true _ r ∙ and_true (q.points ≤? 255) (ap not d)) ∙ h))))
      (λ r. QuestionFault.no_byte (leb-false q.right 255 r)))))
      (λ n. inl (QuestionFault.no_field (λ m. is_not n ((field_exactly im q.place.0).1 m))))

  fault_found : (earlier : List ℕ) (q : Question) → QuestionFault im q → question_fits (fields_of im) earlier q ≡ true → ⊥
  unfolding question_fits
  fault_found earlier q (QuestionFault.no_field f) h = f ((field_exactly im q.place.0).0 (and_l _ _ h))
  fault_found earlier q (QuestionFault.no_byte l) h = let r = leb-true q.right 255 (and_l _ _ (and_r _ _ (and_r _ _ h))) in omega arith
  fault_found earlier q (QuestionFault.default f n e) h =
      let d = default_is im extent z q.place.0 f n in
      let s : q.right ≡ default_at q.place.0 (fields_of im) = ap (λ (l : List ℕ). get_or l 0 0) (sym e ∙ d) in
      is_not (not-true _ (and_l _ _ (and_r _ _ (and_r _ _ (and_r _ _ h))))) (eq-eqb q.right _ s)
  fault_found earlier q (QuestionFault.points l) h = let r = leb-true q.points 255 (and_r _ _ (and_r _ _ (and_r _ _ (and_r _ _ h)))) in omega arith

  -- ---- questions

  -- a fault in a question, a place that came earlier, or one that comes twice
  pub data Fault (earlier : List ℕ) (qs : List Question) : Type 0 where
    one : (q : Question) → Memᴰ q qs → QuestionFault im q → Fault earlier qs
    again : (q : Question) → Memᴰ q qs → is_in q.place.0 earlier ≡ true → Fault earlier qs
    twice : Twice (places_of qs) → Fault earlier qs

  fault_here : (earlier : List ℕ) (q : Question) (qs : List Question) → QuestionFault im q ⊎ (is_in q.place.0 earlier ≡ true) → Fault earlier (q ∷ qs)
  fault_here earlier q qs (inl f) = Fault.one q (Memᴰ.head refl) f
  fault_here earlier q qs (inr i) = Fault.again q (Memᴰ.head refl) i

  fault_later : (earlier : List ℕ) (q : Question) (qs : List Question) → Fault (q.place.0 ∷ earlier) qs → Fault earlier (q ∷ qs)
  unfolding is_in
  fault_later earlier q qs (Fault.one r m f) = Fault.one r (Memᴰ.tail m) f
  fault_later earlier q qs (Fault.again r m i) =
      by_test (q.place.0 =? r.place.0)
      (λ e. Fault.twice (Twice.here {p = q.place.0} {ps = places_of qs} (rw (eqb-true q.place.0 r.place.0 e) (Memᴰ.map (λ (x : Question). x.place.0) m))))
      (λ e. Fault.again r (Memᴰ.tail m) (sym (if_false true (is_in r.place.0 earlier) e) ∙ i))
  fault_later earlier q qs (Fault.twice t) = Fault.twice (Twice.later {p = q.place.0} {ps = places_of qs} t)

  pub fault_in : (earlier : List ℕ) (qs : List Question) → questions_fit (fields_of im) earlier qs ≡ false → Fault earlier qs
  unfolding questions_fit
  fault_in earlier [] h = absurd (false≢true (sym h))
  fault_in earlier (q ∷ qs) h =
      ⊎_elim (λ f. fault_here earlier q qs (question_fault earlier q f)) (λ f. fault_later earlier q qs (fault_in (q.place.0 ∷ earlier) qs f))
      (fails _ _ h)

  -- and back: a fault makes some question not fit

  not_again : (earlier : List ℕ) (q : Question) → is_in q.place.0 earlier ≡ true → question_fits (fields_of im) earlier q ≡ true → ⊥
  unfolding question_fits
  not_again earlier q i h = is_not (not-true _ (and_l _ _ (and_r _ _ h))) i

  in_tail : (p x : ℕ) (ps : List ℕ) → is_in x ps ≡ true → is_in x (p ∷ ps) ≡ true
  unfolding is_in
  in_tail p x ps h = by_test (p =? x) (λ e. if_true _ _ e) (λ e. if_false true (is_in x ps) e ∙ h)

  in_head : (p x : ℕ) (ps : List ℕ) → p ≡ x → is_in x (p ∷ ps) ≡ true
  unfolding is_in
  in_head p x ps e = if_true _ _ (eq-eqb p x e)

  -- a place that came earlier is not met again
  none_again : (p : ℕ) (earlier : List ℕ) (qs : List Question) → is_in p earlier ≡ true → Memᴰ p (places_of qs) → questions_fit (fields_of im) earlier qs ≡ true → ⊥
  unfolding questions_fit
  none_again p earlier [] i m h = Memᴰ.not-nil m
  none_again p earlier (q ∷ qs) i m h =
      ⊎_elim (λ e. not_again earlier q (rw (← e) i) (and_l _ _ h))
      (λ k. none_again p (q.place.0 ∷ earlier) qs (in_tail q.place.0 p earlier i) k (and_r _ _ h)) (Memᴰ.cases_cons m)

  pub none_twice : (earlier : List ℕ) (qs : List Question) → Twice (places_of qs) → questions_fit (fields_of im) earlier qs ≡ true → ⊥
  unfolding questions_fit
  none_twice earlier [] t h = elim t [ ]
  none_twice earlier (q ∷ qs) (Twice.here m) h = none_again q.place.0 (q.place.0 ∷ earlier) qs (in_head q.place.0 q.place.0 earlier refl) m (and_r _ _ h)
  none_twice earlier (q ∷ qs) (Twice.later t) h = none_twice (q.place.0 ∷ earlier) qs t (and_r _ _ h)

  pub none_faulty : (earlier : List ℕ) (q : Question) (qs : List Question) → Memᴰ q qs → QuestionFault im q → questions_fit (fields_of im) earlier qs ≡ true → ⊥
  unfolding questions_fit
  none_faulty earlier q [] m f h = Memᴰ.not-nil m
  none_faulty earlier q (r ∷ qs) m f h =
      ⊎_elim (λ e. fault_found earlier r (rw e at f) (and_l _ _ h)) (λ k. none_faulty (r.place.0 ∷ earlier) q qs k f (and_r _ _ h))
      (Memᴰ.cases_cons m)
