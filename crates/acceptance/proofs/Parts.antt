-- The components of a line: the walk over their places takes them exactly where the grammar has them. The list of places is long enough,
-- since each component ends after its place and inside the image.
use Prim.Native.Nat.{ℕ, zero, suc, ◌+◌, ◌≤◌, ◌<◌}
use mathlib.Core.Path.{◌≡◌, refl, sym, ap, ◌∙◌}
use mathlib.Core.Bool.{true, false}
use mathlib.Core.List.{List, [], ◌∷◌, ◌++◌}
use native.Mathlib.Omega.{arith}
use lib.ListN.{length}
use Rattle.laws.specs.Choice.{when◌then◌else◌}
use Rattle.laws.proofs.Cases.{by_test, if_true, if_false}
use Rattle.field.specs.declared.record.Field.{Field}
use Rattle.cmf.specs.Readers.{even_from, component_at}
use Rattle.cmf.specs.Places.{components_from, held_by}
use Rattle.cmf.specs.Layouts.{Aligned, Component, Components, last_bit}
use Rattle.cmf.proofs.Agreement.{Agree, ComponentReads}
use Rattle.acceptance.specs.declared.index.Entry.{Entry}
use Rattle.acceptance.specs.Check.{State, fine, on_component, on_components}
use Rattle.acceptance.proofs.CameTo.{came_to, put, put_put, Then, then_fine, then_is}
use Rattle.acceptance.proofs.Takes.{Takes, takes_join, takes_split}
use Rattle.acceptance.proofs.Steps.{Taken, component_goes, component_read_lem}

module _ (im : List ℕ) where
  -- the list of places at the last component, and before it
  pub places_last : (k c : ℕ) → (component_at im c).last ≡ true → components_from im (suc k) c ≡ c ∷ []
  unfolding components_from
  places_last k c e = ap (λ (cs : List ℕ). c ∷ cs) (if_true [] _ e)

  pub places_more : (k c : ℕ) → (component_at im c).last ≡ false → components_from im (suc k) c ≡ c ∷ components_from im k (component_at im c).next.0
  unfolding components_from
  places_more k c e = ap (λ (cs : List ℕ). c ∷ cs) (if_false [] _ e)

module _ (im : List ℕ) (A : Agree im) where
  -- what the grammar's bit of the last component says of the reader's
  pub last_true : {p end : ℕ} {fs : List Field} → Component im p end fs → last_bit im p ≡ 1 → (component_at im p).last ≡ true
  last_true {p} c l =
      let r = A.component_reads p (A.component_is c).refusal in by_test (component_at im p).last (λ e. e) (λ e. absurd (omega (arith, r.more e)))

  pub last_false : {p end : ℕ} {fs : List Field} → Component im p end fs → last_bit im p ≡ 0 → (component_at im p).last ≡ false
  last_false {p} c l =
      let r = A.component_reads p (A.component_is c).refusal in by_test (component_at im p).last (λ e. absurd (omega (arith, r.last e))) (λ e. e)

  -- the turns left are enough for the component at p, the first from `at` on, and for those after it
  pub no_turns : {X : Type 0} {at p mid : ℕ} {fs : List Field} → Aligned im 0 at p → Component im p mid fs → (c : ℕ) → c ≡ even_from at → length im + 1 < c + 0 → X
  no_turns {p = p} a x c e h =
      let r = A.component_reads p (A.component_is x).refusal in absurd (omega (arith, r.after, r.inside, (A.even_is a).is))

  pub record Turn (c p mid k : ℕ) : Type 0 where
    pub here : c ≡ p
    pub next : (component_at im p).next.0 ≡ even_from mid
    pub enough : length im + 1 < (component_at im p).next.0 + k

  pub turn :
      {at p mid : ℕ} {fs : List Field} → Aligned im 0 at p → Component im p mid fs → (k c : ℕ) → c ≡ even_from at → length im + 1 < c + suc k → Turn c p mid k
  turn {p = p} a x k c e h =
      let i = A.component_is x in
      let r = A.component_reads p i.refusal in
      let s = (A.even_is a).is in
      record { here = e ∙ sym s; next = omega (arith, r.next, i.ends); enough = omega (arith, s, r.next, r.after) }

module _ (im : List ℕ) (A : Agree im) (extent most : ℕ) where
  -- one component, and then the others
  pub walk_on :
      (c : ℕ) (cs : List ℕ) (s : State) (at lines : ℕ) (es : List Entry) → on_component im extent most c s ≡ came_to at lines es →
      on_components im extent most (c ∷ cs) s ≡ on_components im extent most cs (came_to at lines es)
  unfolding on_components
  walk_on c cs s at lines es e = then_is (on_components im extent most cs) (on_component im extent most c s) at lines es e

  walk_done : (s : State) → on_components im extent most [] s ≡ s
  unfolding on_components
  walk_done s = refl

  -- components of the grammar are taken
  pub components_go :
      {at end : ℕ} {fs : List Field} → Components im at end fs →
      (k c lines : ℕ) (es : List Entry) → c ≡ even_from at → length im + 1 < c + k → Takes extent most es fs →
      on_components im extent most (components_from im k c) (came_to at lines es) ≡ came_to end lines (put es fs)
  components_go (Components.last p a x l) zero c lines es e h t = no_turns im A a x c e h
  components_go {at} {end} {fs} (Components.last p a x l) (suc k) c lines es e h t =
      ap (λ (cs : List ℕ). on_components im extent most cs (came_to at lines es)) (rw (turn im A a x k c e h).here (places_last im k p (last_true im A x l)))
      ∙ walk_on p [] (came_to at lines es) end lines (put es fs) (component_goes im A extent most p end at lines es fs x a t)
      ∙ walk_done (came_to end lines (put es fs))
  components_go (Components.more p mid a x l r) zero c lines es e h t = no_turns im A a x c e h
  components_go {at} {end} (Components.more {fs = fs} {gs = gs} p mid a x l r) (suc k) c lines es e h t =
      let n = turn im A a x k c e h in
      let u = takes_split extent most fs {gs = gs} t in
      ap (λ (cs : List ℕ). on_components im extent most cs (came_to at lines es)) (rw n.here (places_more im k p (last_false im A x l)))
      ∙ walk_on p _ (came_to at lines es) mid lines (put es fs) (component_goes im A extent most p mid at lines es fs x a u.0)
      ∙ components_go r k (component_at im p).next.0 lines (put es fs) n.next n.enough u.1
      ∙ ap (came_to end lines) (put_put es fs gs)

  -- what is known of components that the walk takes
  pub record Parts (at : ℕ) (es : List Entry) : Type 0 where
    pub end : ℕ
    pub fields : List Field
    pub components : Components im at end fields
    pub takes : Takes extent most es fields

  abbrev Reads : ℕ → Type 0
  Reads k =
      (c at lines : ℕ) (es : List Entry) → c ≡ even_from at → at ≤ length im → length im + 1 < c + k →
      fine (on_components im extent most (components_from im k c) (came_to at lines es)) ≡ true → Parts at es

  -- one turn of it
  one_read : (k : ℕ) → Reads k → Reads (suc k)
  unfolding components_from on_components
  one_read k rest c at lines es e i h f = by_test (component_at im c).last last more
    where
      one : State
      one = on_component im extent most c (came_to at lines es)

      t : Then one (on_components im extent most (when (component_at im c).last then [] else components_from im k (component_at im c).next.0) one)
      t = then_fine one _ f

      w : Taken im A extent most c at es
      w = component_read_lem im A extent most c at lines es t.before

      r : ComponentReads im c
      r = A.component_reads c w.refusal

      end : ℕ
      end = (component_at im c).end

      fs : List Field
      fs = held_by (component_at im c)

      aligned : Aligned im 0 at c
      aligned = A.even_aligned at c (record { is = e; zeroed = w.padding }) (omega (arith, r.after, r.inside))

      step : one ≡ came_to end lines (put es fs)
      step = component_goes im A extent most c end at lines es fs r.component aligned w.takes

      last : (component_at im c).last ≡ true → Parts at es
      last l = record { end = end; fields = fs; components = Components.last c aligned r.component (r.last l); takes = w.takes }

      more : (component_at im c).last ≡ false → Parts at es
      more l =
          let g = rw (step, if_false [] (components_from im k (component_at im c).next.0) l) at t.after in
          let b = rest (component_at im c).next.0 end lines (put es fs) r.next r.inside (omega (arith, r.next, r.after)) g in
          record {
            end = b.end;
            fields = fs ++ b.fields;
            components = Components.more c end aligned r.component (r.more l) b.components;
            takes = takes_join extent most w.takes b.takes;
          }

  -- components that the walk takes are the grammar's
  pub components_read : (k : ℕ) → Reads k
  components_read zero = λ c at lines es e i h f. absurd (omega arith)
  components_read (suc k) = one_read k (components_read k)
