-- One structure by itself: the check's answer there is the lowest number that applies, and 0 where none does.
use Prim.Native.Nat.{ℕ, ◌+◌, ◌≤◌, ◌<◌}
use mathlib.Core.Path.{◌≡◌, refl, sym}
use mathlib.Core.Bool.{Bool, true, false}
use mathlib.Core.List.{List}
use native.Mathlib.Omega.{arith}
use borrow.Author.Tests.{ltb-true, ltb-false, leb-true, leb-false, eqb-true, eqb-false}
use Rattle.cmf.specs.Refusals.{refusal_number}
use Rattle.laws.specs.Choice.{when◌then◌else◌, ◌=?◌, ◌<?◌, ◌≤?◌}
use Rattle.laws.specs.Bytes.{byte_at, word_at}
use Rattle.laws.proofs.Cases.{if_ind, by_test, and_i, and_l, and_r}
use Rattle.cmf.specs.Limits.{most_lines_of_table, most_lines}
use Rattle.cmf.specs.Grammar.{is_first, has_password, previous_at, password_at, Digits}
use Rattle.cmf.specs.Readers.{odd_from, even_from, first_at, head_read, title_at}
use Rattle.cmf.specs.Forms.{Cut, HeadCut, HeadWrong}
use Rattle.cmf.specs.declared.title.Title.{Title}
use Rattle.cmf.specs.declared.head.Head.{Head}
use Rattle.cmf.proofs.Forming.{TitleView, title_view, HeadView, head_view, bad_password, good_password}
use Rattle.acceptance.specs.declared.index.Entry.{Entry}
use Rattle.acceptance.specs.declared.progress.Progress.{Progress}
use Rattle.acceptance.specs.Check.{padded, agrees, line_placed, count_line, take_line, on_head}
use Rattle.acceptance.specs.Faults.{FirstOfParity, TitleFault, HeadFault, Lowest}
use Rattle.acceptance.proofs.CameTo.{came_to, clash}
use Rattle.acceptance.proofs.Steps.{padded_is, padded_reads}

-- ---- the lowest number that applies, or 0

-- r is the answer where P tells which numbers apply
pub record Judged (P : ℕ → Type 0) (r : ℕ) : Type 0 where
  pub bound : (j : ℕ) → P j → (0 < r) × (r ≤ j)
  pub finds : 0 < r → P r

module _ {P : ℕ → Type 0} {r : ℕ} where
  -- an answer that applies and is the least, and the answer where none applies
  pub at_fault : (k : ℕ) → r ≡ k → 0 < k → P k → ((j : ℕ) → P j → k ≤ j) → Judged P r
  at_fault k e h p l = rw e (record { bound = λ j q. (h, l j q); finds = λ _. p })

  pub no_fault : r ≡ 0 → ((j : ℕ) → P j → ⊥) → Judged P r
  no_fault e n = record { bound = λ j q. absurd (n j q); finds = λ h. absurd (omega arith) }

  -- an answer but 0 is the lowest number that applies, and the lowest number is the answer
  pub judged_lowest : Judged P r → 0 < r → Lowest P r
  judged_lowest d h = record { applies = d.finds h; least = λ j q. (d.bound j q).1 }

  pub lowest_judged : {k : ℕ} → Judged P r → Lowest P k → (r ≡ k) × (0 < r)
  lowest_judged {k} d l =
      let a = d.bound k l.applies in
      let b = l.least r (d.finds a.0) in
      (omega (arith, a.1, b), a.0)

-- a number that is not below
pub not_below : (k j : ℕ) → (j < k → ⊥) → k ≤ j
not_below k j n = by_test (j <? k) (λ e. absurd (n (ltb-true j k e))) (λ e. ltb-false j k e)

-- ---- places

-- the first odd place and the first even one, and back
pub is_odd : {at p : ℕ} → FirstOfParity 1 at p → p ≡ odd_from at
is_odd o = omega (arith, o.agrees, o.after, o.first)

pub odd_place : {at p : ℕ} → p ≡ odd_from at → FirstOfParity 1 at p
odd_place e = record { agrees = omega arith; after = omega arith; first = omega arith }

pub is_even : {at p : ℕ} → FirstOfParity 0 at p → p ≡ even_from at
is_even o = omega (arith, o.agrees, o.after, o.first)

pub even_place : {at p : ℕ} → p ≡ even_from at → FirstOfParity 0 at p
even_place e = record { agrees = omega arith; after = omega arith; first = omega arith }

-- ---- a title

-- the check's answer at a title: 8 where it is whole and no level is left
abbrev pub title_answer : List ℕ → ℕ → ℕ → ℕ
title_answer im left t = when refusal_number (title_at im t).refusal =? 0 then (when left =? 0 then 8 else 0) else refusal_number (title_at im t).refusal

module _ (im : List ℕ) (left t : ℕ) where
  title_least : (k : ℕ) → (6 < k → Cut im 1 t → ⊥) → (8 < k → left ≡ 0 → ⊥) → (j : ℕ) → TitleFault im left t j → k ≤ j
  title_least k a b j (TitleFault.cut c) = not_below k 6 (λ l. a l c)
  title_least k a b j (TitleFault.deep z) = not_below k 8 (λ l. b l z)

  title_by_lem : (x : Title) → TitleView im t x → Judged (TitleFault im left t) (when refusal_number x.refusal =? 0 then (when left =? 0 then 8 else 0) else refusal_number x.refusal)
  title_by_lem x (TitleView.cut c e) =
      if_ind (Judged (TitleFault im left t)) (refusal_number x.refusal =? 0) (λ q. let z = eqb-true (refusal_number x.refusal) 0 q in absurd (omega arith))
      (λ _. at_fault 6 e (omega arith) (TitleFault.cut c) (title_least 6 (λ l. absurd (omega arith)) (λ l. absurd (omega arith))))
  title_by_lem x (TitleView.whole u e) =
      if_ind (Judged (TitleFault im left t)) (refusal_number x.refusal =? 0)
      (λ _. if_ind (Judged (TitleFault im left t)) (left =? 0)
      (λ z. at_fault 8 refl (omega arith) (TitleFault.deep (eqb-true left 0 z)) (title_least 8 (λ _. u) (λ l. absurd (omega arith))))
      (λ z. no_fault refl (λ j f. let h = title_least (j + 1) (λ _. u) (λ _. eqb-false left 0 z) j f in omega arith)))
      (λ q. absurd (eqb-false (refusal_number x.refusal) 0 q e))

  pub title_judged : Judged (TitleFault im left t) (title_answer im left t)
  title_judged = title_by_lem (title_at im t) (title_view im t)

-- ---- a line's head

module _ (im : List ℕ) (lines n before at p : ℕ) where
  abbrev F : ℕ → Type 0
  F = HeadFault im lines n before at p

  -- row 7 does not apply
  record Right : Type 0 where
    right : HeadWrong im p → ⊥
    place : FirstOfParity 1 at p
    zeroed : at < p → byte_at im at ≡ 0
    first : n ≡ 0 → is_first im p ≡ 0 → ⊥
    later : 0 < n → is_first im p ≡ 1 → ⊥
    previous : 0 < n → is_first im p ≡ 0 → before + word_at im (previous_at im p) ≡ p

  -- nor does row 8
  record Few : Type 0 where
    table : n < most_lines_of_table
    image : lines < most_lines

  head_least :
      (k : ℕ) → (6 < k → HeadCut im p → ⊥) → (7 < k → Right) → (8 < k → Few) → (9 < k → has_password im p ≡ 1 → Digits im (password_at im p)) →
      (j : ℕ) → F j → k ≤ j
  head_least k a b c d j (HeadFault.cut x) = not_below k 6 (λ l. a l x)
  head_least k a b c d j (HeadFault.wrong x) = not_below k 7 (λ l. (b l).right x)
  head_least k a b c d j (HeadFault.misplaced x) = not_below k 7 (λ l. x (b l).place)
  head_least k a b c d j (HeadFault.padding h x) = not_below k 7 (λ l. x ((b l).zeroed h))
  head_least k a b c d j (HeadFault.unmarked z x) = not_below k 7 (λ l. (b l).first z x)
  head_least k a b c d j (HeadFault.marked z x) = not_below k 7 (λ l. (b l).later z x)
  head_least k a b c d j (HeadFault.previous z f x) = not_below k 7 (λ l. x ((b l).previous z f))
  head_least k a b c d j (HeadFault.hundredth x) = not_below k 8 (λ l. omega (arith, (c l).table))
  head_least k a b c d j (HeadFault.many x) = not_below k 8 (λ l. omega (arith, (c l).image))
  head_least k a b c d j (HeadFault.password w x) = not_below k 9 (λ l. x (d l w))

  module _ (end : ℕ) where
    abbrev h : Head
    h = head_read im p (byte_at im p) end

    -- marks that agree
    agree_right : agrees im n before p ≡ true → (n ≡ 0 → is_first im p ≡ 0 → ⊥) × ((0 < n → is_first im p ≡ 1 → ⊥) × (0 < n → is_first im p ≡ 0 → before + word_at im (previous_at im p) ≡ p))
    unfolding agrees
    agree_right =
        if_ind Q (n =? 0)
        (λ z f. let e = eqb-true n 0 z in let o = eqb-true (is_first im p) 1 f in ((λ _ g. omega arith), ((λ l. absurd (omega arith)), (λ l. absurd (omega arith)))))
        (λ z. let e = eqb-false n 0 z in
        if_ind Q (first_at im p) (λ _ f. clash refl (sym f))
        (λ o f. let m = eqb-false (is_first im p) 1 o in ((λ y. absurd (e y)), ((λ _ g. m g), (λ _ _. eqb-true _ p f)))))
      where
        Q : Bool → Type 0
        Q b =
            b ≡ true →
            (n ≡ 0 → is_first im p ≡ 0 → ⊥) × ((0 < n → is_first im p ≡ 1 → ⊥) × (0 < n → is_first im p ≡ 0 → before + word_at im (previous_at im p) ≡ p))

    -- and marks that do not
    agree_wrong : agrees im n before p ≡ false → F 7
    unfolding agrees
    agree_wrong =
        if_ind Q (n =? 0)
        (λ z f. HeadFault.unmarked (eqb-true n 0 z) (omega (arith, eqb-false (is_first im p) 1 f)))
        (λ z. let l : 0 < n = omega (arith, eqb-false n 0 z) in
        if_ind Q (first_at im p) (λ o _. HeadFault.marked l (eqb-true (is_first im p) 1 o))
        (λ o f. HeadFault.previous l (omega (arith, eqb-false (is_first im p) 1 o)) (eqb-false (before + word_at im (previous_at im p)) p f)))
      where
        Q : Bool → Type 0
        Q b = b ≡ false → F 7

    -- the line's place
    place_right : (HeadWrong im p → ⊥) → p =? odd_from at ≡ true → padded im at p ≡ true → agrees im n before p ≡ true → Right
    place_right r o z g =
        let m = agree_right g in
        record {
          right = r;
          place = odd_place (eqb-true p (odd_from at) o);
          zeroed = λ l. padded_reads im at p z (λ e. omega arith);
          first = m.0;
          later = m.1.0;
          previous = m.1.1;
        }

    right_by : (HeadWrong im p → ⊥) → (es : List Entry) → line_placed im n before p (came_to at lines es).progress ≡ true → Right
    unfolding line_placed
    right_by r es e = place_right r (and_l _ _ e) (and_l _ _ (and_r _ _ e)) (and_r _ _ (and_r _ _ e))

    not_padded : p ≡ odd_from at → padded im at p ≡ false → F 7
    not_padded o z =
        by_test (at =? p)
        (λ e. clash (padded_is im at p (λ x. absurd (x (eqb-true at p e)))) z)
        (λ e. let q = eqb-false at p e in HeadFault.padding (omega arith) (λ y. clash (padded_is im at p (λ _. y)) z))

    -- row 8, then row 9
    counted : (HeadCut im p → ⊥) → Right → (es : List Entry) → Judged F (refusal_number (count_line n h (came_to at lines es).progress).refusal)
    unfolding count_line
    counted u r es =
        if_ind J (most_lines_of_table ≤? n) (λ q. at_fault 8 refl (omega arith) (HeadFault.hundredth (leb-true most_lines_of_table n q)) eight)
        (λ a. if_ind J (most_lines ≤? lines) (λ q. at_fault 8 refl (omega arith) (HeadFault.many (leb-true most_lines lines q)) eight)
        (λ b. let few : Few = record { table = leb-false most_lines_of_table n a; image = leb-false most_lines lines b } in
        if_ind J h.typeable
        (λ g. no_fault refl
        (λ j f. let l = head_least (j + 1) (λ _. u) (λ _. r) (λ _. few) (λ _. good_password im p end r.right g) j f in omega arith))
        (λ g. let w = bad_password im p end r.right g in
        at_fault 9 refl (omega arith) (HeadFault.password w.0 w.1) (head_least 9 (λ _. u) (λ _. r) (λ _. few) (λ l. absurd (omega arith))))))
      where
        J : Progress → Type 0
        J w = Judged F (refusal_number w.refusal)

        eight : (j : ℕ) → F j → 8 ≤ j
        eight = head_least 8 (λ _. u) (λ _. r) (λ l. absurd (omega arith)) (λ l. absurd (omega arith))

    -- row 7, by place, padding and marks
    located : (HeadCut im p → ⊥) → (HeadWrong im p → ⊥) → (es : List Entry) → line_placed im n before p (came_to at lines es).progress ≡ false → F 7
    unfolding line_placed
    located u r es e =
        by_test (p =? odd_from at)
        (λ o. by_test (padded im at p)
        (λ z. by_test (agrees im n before p) (λ g. clash (and_i o (and_i z g)) e) agree_wrong)
        (not_padded (eqb-true p (odd_from at) o)))
        (λ o. HeadFault.misplaced (λ x. eqb-false p (odd_from at) o (is_odd x)))

  head_seven : (HeadCut im p → ⊥) → (j : ℕ) → F j → 7 ≤ j
  head_seven u = head_least 7 (λ _. u) (λ l. absurd (omega arith)) (λ l. absurd (omega arith)) (λ l. absurd (omega arith))

  head_by_lem : {x : Head} (es : List Entry) → HeadView im p x → Judged F (refusal_number (take_line im n before p x (came_to at lines es).progress).refusal)
  unfolding take_line
  head_by_lem es (HeadView.cut c) =
      if_ind (λ (w : Progress). Judged F (refusal_number w.refusal)) (6 =? 0) (λ q. let z = eqb-true 6 0 q in absurd (omega arith))
      (λ _. at_fault 6 refl (omega arith) (HeadFault.cut c)
      (head_least 6 (λ l. absurd (omega arith)) (λ l. absurd (omega arith)) (λ l. absurd (omega arith)) (λ l. absurd (omega arith))))
  head_by_lem es (HeadView.wrong u x) =
      if_ind (λ (w : Progress). Judged F (refusal_number w.refusal)) (7 =? 0) (λ q. let z = eqb-true 7 0 q in absurd (omega arith))
      (λ _. at_fault 7 refl (omega arith) (HeadFault.wrong x) (head_seven u))
  head_by_lem es (HeadView.whole u r end) =
      if_ind (λ (w : Progress). Judged F (refusal_number w.refusal)) (0 =? 0)
      (λ _. if_ind (λ (w : Progress). Judged F (refusal_number w.refusal)) (line_placed im n before p (came_to at lines es).progress)
      (λ e. counted end u (right_by end r es e) es)
      (λ e. at_fault 7 refl (omega arith) (located end u r es e) (head_seven u)))
      (λ q. absurd (eqb-false 0 0 q refl))

  -- the check's answer at a line's head
  pub head_judged : (extent most : ℕ) (es : List Entry) → Judged F (refusal_number (on_head im extent most n before p (came_to at lines es)).progress.refusal)
  unfolding on_head
  head_judged extent most es = head_by_lem es (head_view im p)
