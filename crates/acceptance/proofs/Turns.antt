-- The lists of places are long enough: with more turns the components of a line are the same, and the walk over a table's lines comes to the
-- same state. So no refusal, and no acceptance, is owed to a list that was cut short.
use Prim.Native.Nat.{ℕ, zero, suc, ◌+◌, ◌≤◌, ◌<◌}
use mathlib.Core.Path.{◌≡◌, sym, ap, ◌∙◌}
use mathlib.Core.Bool.{true, false}
use mathlib.Core.List.{List, ◌∷◌}
use native.Mathlib.Omega.{arith}
use lib.ListN.{length}
use borrow.Author.Tests.{leb-false, eqb-true}
use Rattle.cmf.specs.Refusals.{refusal_number}
use Rattle.cmf.specs.declared.refusal.Refusal.TheVariants as fault
use Rattle.laws.specs.Choice.{◌=?◌, ◌≤?◌}
use Rattle.laws.proofs.Cases.{by_test, if_ind, if_true, if_false}
use Rattle.cmf.specs.Limits.{most_lines_of_table}
use Rattle.cmf.specs.Readers.{head_at, component_at}
use Rattle.cmf.specs.Places.{lines_from, components_from}
use Rattle.cmf.proofs.Agreement.{Agree}
use Rattle.cmf.specs.declared.component.Component as read
use Rattle.acceptance.specs.declared.progress.Progress.{Progress}
use Rattle.acceptance.specs.Check.{State, with, fine, and_then, padded, take_field, take_component, line_placed, count_line, take_line, on_component, on_components, on_head, on_line, on_lines}
use Rattle.acceptance.proofs.CameTo.{code_refused, is_refused_lem, then_fine}
use Rattle.acceptance.proofs.Parts.{places_last, places_more}
use Rattle.acceptance.proofs.Tables.{lines_last, lines_more}

-- two walks that take the same step and then agree
then_same : (x y z : State) → (fine x ≡ true → y ≡ z) → and_then x y ≡ and_then x z
unfolding and_then
then_same x y z h =
    by_test (fine x) (λ e. if_true y x e ∙ h e ∙ sym (if_true z x e)) (λ e. if_false y x e ∙ sym (if_false z x e))

-- what has to be known of the reader: a component that is not marked as the last is in the image, and the next one after it
abbrev pub Onward : List ℕ → Type 0
Onward im = (c : ℕ) → (component_at im c).last ≡ false → (c < length im) × (c < (component_at im c).next.0)

module _ (im : List ℕ) where
  -- ---- components

  module _ (onward : Onward im) where
    pub turns_more : (k j c : ℕ) → k ≤ j → 0 < k → length im < k + c → components_from im j c ≡ components_from im k c
    turns_more zero j c l z h = absurd (omega arith)
    turns_more (suc k) zero c l z h = absurd (omega arith)
    turns_more (suc k) (suc j) c l z h =
        by_test (component_at im c).last (λ e. places_last im j c e ∙ sym (places_last im k c e))
        (λ e.
        let o = onward c e in
        places_more im j c e
        ∙ ap (λ (cs : List ℕ). c ∷ cs)
        (turns_more k j (component_at im c).next.0 (omega arith) (omega (arith, o.0)) (omega (arith, o.1)))
        ∙ sym (places_more im k c e))

    -- whatever the image and the place, as many turns as there are bytes and one are enough
    pub components_enough : (c k : ℕ) → length im + 1 ≤ k → components_from im k c ≡ components_from im (length im + 1) c
    components_enough c k l = turns_more (length im + 1) k c l (omega arith) (omega arith)

  -- for the walk, which stops at a refusal, that follows from what is known of components without fault
  module _ (A : Agree im) (extent most : ℕ) where
    part_code : (c : ℕ) (s : State) → fine (on_component im extent most c s) ≡ true → refusal_number (component_at im c).refusal ≡ 0
    unfolding on_component take_component take_field
    part_code c s =
        if_ind P (refusal_number x.refusal =? 6) (λ _ h. is_refused_lem s fault.Cut h)
        (λ _. if_ind P (padded im s.progress.at c)
        (λ _. if_ind P x.fielded
        (λ _. if_ind P (most ≤? s.progress.fields) (λ _ h. is_refused_lem s fault.Limit h)
        (λ _. if_ind P (refusal_number x.refusal =? 0) (λ e _. eqb-true _ 0 e) (λ e h. code_refused s x.refusal e h)))
        (λ _. if_ind P (refusal_number x.refusal =? 0) (λ e _. eqb-true _ 0 e) (λ e h. code_refused s x.refusal e h)))
        (λ _ h. is_refused_lem s fault.Form h))
      where
        x : read.Component
        x = component_at im c

        P : State → Type 0
        P r = fine r ≡ true → refusal_number (component_at im c).refusal ≡ 0

    same_parts :
        (c : ℕ) (cs ds : List ℕ) (s : State) →
        (refusal_number (component_at im c).refusal ≡ 0 → (r : State) → on_components im extent most cs r ≡ on_components im extent most ds r) →
        on_components im extent most (c ∷ cs) s ≡ on_components im extent most (c ∷ ds) s
    unfolding on_components
    same_parts c cs ds s h = then_same _ _ _ (λ f. h (part_code c s f) _)

    more_parts :
        (k j c : ℕ) (s : State) → k ≤ j → 0 < k → length im < k + c →
        on_components im extent most (components_from im j c) s ≡ on_components im extent most (components_from im k c) s
    more_parts zero j c s l z h = absurd (omega arith)
    more_parts (suc k) zero c s l z h = absurd (omega arith)
    more_parts (suc k) (suc j) c s l z h =
        by_test (component_at im c).last (λ e. rw (places_last im j c e, places_last im k c e))
        (λ e. rw (places_more im j c e, places_more im k c e)
        (same_parts c _ _ s
        (λ o r.
        let b = A.component_reads c o in
        more_parts k j (component_at im c).next.0 r (omega arith) (omega (arith, b.after, b.inside)) (omega (arith, b.next, b.after)))))

    -- the walk over a line's components comes to the same state
    pub parts_enough :
        (c k : ℕ) (s : State) → length im + 1 ≤ k →
        on_components im extent most (components_from im k c) s ≡ on_components im extent most (components_from im (length im + 1) c) s
    parts_enough c k s l = more_parts (length im + 1) k c s l (omega arith) (omega arith)

  -- ---- lines

  module _ (extent most : ℕ) (submenu : ℕ → State → State) where
    -- a line that is not refused is one of the first 99
    head_few : (n before p : ℕ) (s : State) → fine (on_head im extent most n before p s) ≡ true → n < most_lines_of_table
    unfolding on_head take_line count_line
    head_few n before p s =
        if_ind P (refusal_number (head_at im p).refusal =? 0)
        (λ _. if_ind P (line_placed im n before p s.progress)
        (λ _. if_ind P (most_lines_of_table ≤? n) (λ _ h. is_refused_lem s fault.Limit h)
        (λ e _. leb-false most_lines_of_table n e))
        (λ _ h. is_refused_lem s fault.Form h))
        (λ e h. code_refused s (head_at im p).refusal e h)
      where
        P : Progress → Type 0
        P w = fine (with s w) ≡ true → n < most_lines_of_table

    line_few : (n before p : ℕ) (s : State) → fine (on_line im extent most submenu n before p s) ≡ true → n < most_lines_of_table
    unfolding on_line
    line_few n before p s f = head_few n before p s (then_fine _ _ f).before

    same_rest :
        (n before p : ℕ) (ps qs : List ℕ) (s : State) →
        (n < most_lines_of_table → (r : State) → on_lines im extent most submenu (n + 1) p ps r ≡ on_lines im extent most submenu (n + 1) p qs r) →
        on_lines im extent most submenu n before (p ∷ ps) s ≡ on_lines im extent most submenu n before (p ∷ qs) s
    unfolding on_lines
    same_rest n before p ps qs s h = then_same _ _ _ (λ f. h (line_few n before p s f) _)

    more_lines :
        (k j n before p : ℕ) (s : State) → k ≤ j → most_lines_of_table < n + k → n ≤ most_lines_of_table →
        on_lines im extent most submenu n before (lines_from im j p) s ≡ on_lines im extent most submenu n before (lines_from im k p) s
    more_lines zero j n before p s l h m = absurd (omega arith)
    more_lines (suc k) zero n before p s l h m = absurd (omega arith)
    more_lines (suc k) (suc j) n before p s l h m =
        by_test (head_at im p).last (λ e. rw (lines_last im j p e, lines_last im k p e))
        (λ e. rw (lines_more im j p e, lines_more im k p e)
        (same_rest n before p _ _ s (λ f r. more_lines k j (n + 1) p (head_at im p).next.0 r (omega arith) (omega arith) (omega arith))))

    -- 100 turns are enough for a table's lines
    pub lines_enough :
        (k before p : ℕ) (s : State) → most_lines_of_table + 1 ≤ k →
        on_lines im extent most submenu 0 before (lines_from im k p) s ≡ on_lines im extent most submenu 0 before (lines_from im (most_lines_of_table + 1) p) s
    lines_enough k before p s l = more_lines (most_lines_of_table + 1) k 0 before p s l (omega arith) (omega arith)
