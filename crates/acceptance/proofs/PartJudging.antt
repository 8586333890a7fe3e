-- A component by itself: the check's answer there is the lowest number that applies, and 0 where none does.
use Prim.Native.Nat.{ℕ, ◌+◌, ◌≤◌, ◌<◌}
use mathlib.Core.Path.{◌≡◌, refl, sym, ◌∙◌}
use mathlib.Core.Bool.{Bool, true, false, true≢false}
use mathlib.Core.List.{List, [], ◌∷◌, map}
use native.Mathlib.Omega.{arith}
use lib.ListN.{length, length-map}
use borrow.Author.Tests.{leb-true, leb-false, eqb-true, eqb-false}
use Rattle.std.specs.Prelude.{Option}
use Rattle.cmf.specs.Refusals.{refusal_number}
use Rattle.cmf.specs.declared.refusal.Refusal.{Refusal}
use Rattle.laws.specs.Choice.{◌=?◌, ◌≤?◌}
use Rattle.laws.specs.Bytes.{byte_at}
use Rattle.laws.proofs.Cases.{if_ind, by_test, and_l, and_r, and_true}
use Rattle.field.specs.Sheet.{size_of}
use Rattle.field.specs.declared.record.Field.{Field}
use Rattle.cmf.specs.Limits.{most_fields, longest_sheet}
use Rattle.cmf.specs.Layouts.{GoodSettings}
use Rattle.cmf.specs.Grammar.{InSheet, Holds}
use Rattle.cmf.specs.Forms.{Form, FieldIs, ComponentCut, ComponentWrong}
use Rattle.cmf.specs.declared.component.Component.{Component}
use Rattle.cmf.proofs.Forming.{room_gt}
use Rattle.cmf.proofs.Rows.{Settings, View, view, same_field, no_field}
use Rattle.acceptance.specs.Check.{State, padded, entry_of, in_sheet, apart, apart_from, take_field, take_component, on_component}
use Rattle.acceptance.specs.Faults.{FirstOfParity, Shares, ComponentFault}
use Rattle.acceptance.proofs.CameTo.{came_to, clash}
use Rattle.acceptance.proofs.Steps.{padded_is, padded_reads}
use Rattle.acceptance.proofs.Takes.{sheet_reads, apart_reads}
use Rattle.acceptance.proofs.Judging.{Judged, at_fault, no_fault, not_below}

-- ---- bytes that two fields share

record Meet (f g : Field) : Type 0 where
  byte : ℕ
  one : Holds f byte
  other : Holds g byte

-- fields that are not apart have a byte in common
meets : (f g : Field) → apart (entry_of f) (entry_of g) ≡ false → Meet f g
unfolding apart
meets f g =
    if_ind Q (size_of f =? 0) (λ _ e. absurd (true≢false e))
    (λ a. if_ind Q (size_of g =? 0) (λ _ e. absurd (true≢false e))
    (λ b. if_ind Q ((f.sheet.0 + size_of f) ≤? g.sheet.0) (λ _ e. absurd (true≢false e))
    (λ c e. let u = leb-false (f.sheet.0 + size_of f) g.sheet.0 c in
    let v = leb-false (g.sheet.0 + size_of g) f.sheet.0 e in
    let x = eqb-false (size_of f) 0 a in
    let y = eqb-false (size_of g) 0 b in
    by_test (f.sheet.0 ≤? g.sheet.0)
    (λ o. let l = leb-true f.sheet.0 g.sheet.0 o in
    record { byte = g.sheet.0; one = record { from = omega arith; to = omega arith }; other = record { from = omega arith; to = omega arith } })
    (λ o. let l = leb-false f.sheet.0 g.sheet.0 o in
    record { byte = f.sheet.0; one = record { from = omega arith; to = omega arith }; other = record { from = omega arith; to = omega arith } }))))
  where
    Q : Bool → Type 0
    Q t = t ≡ false → Meet f g

-- a field that is not apart from all of a list shares a byte with one of it
shares : (f : Field) (fs : List Field) → apart_from (entry_of f) (map entry_of fs) ≡ false → Shares f fs
unfolding apart_from
shares f [] e = absurd (true≢false e)
shares f (g ∷ fs) e =
    by_test (apart (entry_of f) (entry_of g)) (λ y. Shares.later (shares f fs (sym (and_true _ y) ∙ e)))
    (λ y. let m = meets f g y in Shares.here m.byte m.one m.other)

-- and one that is apart shares none
shares_none : (f : Field) {fs : List Field} → apart_from (entry_of f) (map entry_of fs) ≡ true → Shares f fs → ⊥
unfolding apart_from
shares_none f e (Shares.here {g = g} x a b) = (apart_reads g f (and_l _ _ e)).disjoint x b a
shares_none f e (Shares.later {g = g} s) = shares_none f (and_r (apart (entry_of f) (entry_of g)) _ e) s

-- ---- settings

module _ {f : Field} where
  not_six : {r : Option Refusal} → Settings f r → refusal_number r ≡ 6 → ⊥
  not_six (Settings.good g) e = omega arith
  not_six (Settings.bad n) e = omega arith

  is_good : {r : Option Refusal} → Settings f r → refusal_number r ≡ 0 → GoodSettings f
  is_good (Settings.good g) e = g
  is_good (Settings.bad n) e = absurd (omega arith)

  is_bad : {r : Option Refusal} → Settings f r → (refusal_number r ≡ 0 → ⊥) → (refusal_number r ≡ 9) × (GoodSettings f → ⊥)
  is_bad (Settings.good g) n = absurd (n refl)
  is_bad (Settings.bad b) n = (refl, b)

-- ---- a component

module _ (im : List ℕ) (extent : ℕ) (fs : List Field) (at p : ℕ) where
  abbrev F : ℕ → Type 0
  F = ComponentFault im extent fs at p

  abbrev is : {b t : ℕ} {f : Field} → Form im p b t (f ∷ []) → FieldIs im p f
  is {b} {t} x = record { bytes = b; texts = t; form = x }

  -- row 7 does not apply
  record Right : Type 0 where
    right : ComponentWrong im p → ⊥
    zeroed : at < p → byte_at im at ≡ 0

  part_least :
      (k : ℕ) → (6 < k → ComponentCut im p → ⊥) → (7 < k → Right) → (8 < k → (f : Field) → FieldIs im p f → length fs < most_fields) →
      (9 < k → (f : Field) → FieldIs im p f → GoodSettings f) → (10 < k → (f : Field) → FieldIs im p f → InSheet extent f) →
      (11 < k → (f : Field) → FieldIs im p f → Shares f fs → ⊥) → (j : ℕ) → F j → k ≤ j
  part_least k a b c d e g j (ComponentFault.cut x) = not_below k 6 (λ l. a l x)
  part_least k a b c d e g j (ComponentFault.wrong x) = not_below k 7 (λ l. (b l).right x)
  part_least k a b c d e g j (ComponentFault.padding h x) = not_below k 7 (λ l. x ((b l).zeroed h))
  part_least k a b c d e g j (ComponentFault.many {f = f} x h) = not_below k 8 (λ l. omega (arith, c l f x))
  part_least k a b c d e g j (ComponentFault.settings {f = f} x h) = not_below k 9 (λ l. h (d l f x))
  part_least k a b c d e g j (ComponentFault.long {f = f} x h) = not_below k 10 (λ l. omega (arith, (e l f x).short))
  part_least k a b c d e g j (ComponentFault.outside {f = f} x h) = not_below k 10 (λ l. omega (arith, (e l f x).inside))
  part_least k a b c d e g j (ComponentFault.shared {f = f} x h) = not_below k 11 (λ l. g l f x h)

  seven : (ComponentCut im p → ⊥) → (j : ℕ) → F j → 7 ≤ j
  seven u =
      part_least 7 (λ _. u) (λ l. absurd (omega arith)) (λ l. absurd (omega arith)) (λ l. absurd (omega arith)) (λ l. absurd (omega arith)) (λ l. absurd (omega arith))

  -- a byte skipped that is not zero
  not_padded : FirstOfParity 0 at p → padded im at p ≡ false → F 7
  not_padded o z =
      by_test (at =? p)
      (λ e. clash (padded_is im at p (λ x. absurd (x (eqb-true at p e)))) z)
      (λ e. let q = eqb-false at p e in ComponentFault.padding (omega (arith, o.after)) (λ y. clash (padded_is im at p (λ _. y)) z))

  -- a sheet that is too long, or bytes past its end
  beyond_sheet : {b t : ℕ} {f : Field} → Form im p b t (f ∷ []) → in_sheet extent (entry_of f) ≡ false → F 10
  unfolding in_sheet
  beyond_sheet {f = f} form i =
      by_test (extent ≤? longest_sheet)
      (λ y. ComponentFault.outside (is form) (room_gt extent f.sheet.0 (size_of f) (sym (and_true _ y) ∙ i))) (λ y. ComponentFault.long (is form) (leb-false extent longest_sheet y))

  module _ (lines : ℕ) where
    abbrev s : State
    s = came_to at lines (map entry_of fs)

    abbrev J : State → Type 0
    J x = Judged F (refusal_number x.progress.refusal)

    -- a field that is all there: rows 8 to 11
    field_by_lem :
        {b t : ℕ} {f : Field} (x : Component) → (ComponentCut im p → ⊥) → Right → Form im p b t (f ∷ []) → x.field ≡ f → Settings f x.refusal →
        J (take_field extent most_fields x s)
    unfolding take_field
    field_by_lem {b} {t} {f} x u r form e st =
        if_ind J (most_fields ≤? length (map entry_of fs))
        (λ m. at_fault 8 refl (omega arith) (ComponentFault.many (is form) (omega (arith, leb-true most_fields (length (map entry_of fs)) m, n)))
        (part_least 8 (λ _. u) (λ _. r) (λ l. absurd (omega arith)) (λ l. absurd (omega arith)) (λ l. absurd (omega arith)) (λ l. absurd (omega arith))))
        (λ m. let few : length fs < most_fields = omega (arith, leb-false most_fields (length (map entry_of fs)) m, n) in
        if_ind J (refusal_number x.refusal =? 0)
        (λ z. let good : (g : Field) → FieldIs im p g → GoodSettings g = λ g h. rw (same h) (is_good st (eqb-true _ 0 z)) in
        if_ind J (in_sheet extent (entry_of x.field))
        (λ i. let inside : (g : Field) → FieldIs im p g → InSheet extent g = λ g h. rw (same h) (sheet_reads extent f (rw e at i)) in
        if_ind J (apart_from (entry_of x.field) (map entry_of fs))
        (λ a. no_fault refl (λ j q. let l = part_least (j + 1) (λ _. u) (λ _. r) (λ _ _ _. few) (λ _. good) (λ _. inside)
        (λ _ g h. rw (same h) (shares_none f (rw e at a))) j q in omega arith))
        (λ a. at_fault 11 refl (omega arith) (ComponentFault.shared (is form) (shares f fs (rw e at a)))
        (part_least 11 (λ _. u) (λ _. r) (λ _ _ _. few) (λ _. good) (λ _. inside) (λ l. absurd (omega arith)))))
        (λ i. at_fault 10 refl (omega arith) (beyond_sheet form (rw e at i))
        (part_least 10 (λ _. u) (λ _. r) (λ _ _ _. few) (λ _. good) (λ l. absurd (omega arith)) (λ l. absurd (omega arith)))))
        (λ z. let w = is_bad st (eqb-false (refusal_number x.refusal) 0 z) in
        at_fault 9 w.0 (omega arith) (ComponentFault.settings (is form) w.1)
        (part_least 9 (λ _. u) (λ _. r) (λ _ _ _. few) (λ l. absurd (omega arith)) (λ l. absurd (omega arith)) (λ l. absurd (omega arith)))))
      where
        n : length (map entry_of fs) ≡ length fs
        n = length-map fs entry_of

        same : {g : Field} → FieldIs im p g → g ≡ f
        same h = same_field im p h.form form

    part_by : {x : Component} → FirstOfParity 0 at p → View im p x → J (take_component im extent most_fields p x s)
    unfolding take_component
    part_by {x} o (View.cut c e) =
        if_ind J (refusal_number x.refusal =? 6)
        (λ _. at_fault 6 refl (omega arith) (ComponentFault.cut c)
        (part_least 6 (λ l. absurd (omega arith)) (λ l. absurd (omega arith)) (λ l. absurd (omega arith)) (λ l. absurd (omega arith)) (λ l. absurd (omega arith)) (λ l. absurd (omega arith))))
        (λ q. absurd (eqb-false (refusal_number x.refusal) 6 q e))
    part_by {x} o (View.wrong u w e h) =
        if_ind J (refusal_number x.refusal =? 6) (λ q. absurd (omega (arith, eqb-true (refusal_number x.refusal) 6 q)))
        (λ _. if_ind J (padded im at p)
        (λ _. if_ind J x.fielded (λ y. clash y h)
        (λ _. if_ind J (refusal_number x.refusal =? 0) (λ q. absurd (omega (arith, eqb-true (refusal_number x.refusal) 0 q)))
        (λ _. at_fault 7 e (omega arith) (ComponentFault.wrong w) (seven u))))
        (λ z. at_fault 7 refl (omega arith) (ComponentFault.wrong w) (seven u)))
    part_by {x} o (View.plain u r form e h) =
        if_ind J (refusal_number x.refusal =? 6) (λ q. absurd (omega (arith, eqb-true (refusal_number x.refusal) 6 q)))
        (λ _. if_ind J (padded im at p)
        (λ z. if_ind J x.fielded (λ y. clash y h)
        (λ _. if_ind J (refusal_number x.refusal =? 0)
        (λ _. no_fault refl (λ j q. let l = part_least (j + 1) (λ _. u) (λ _. right_by r z) (λ _ f y. absurd (no_field im p form y.form))
        (λ _ f y. absurd (no_field im p form y.form)) (λ _ f y. absurd (no_field im p form y.form)) (λ _ f y. absurd (no_field im p form y.form)) j q in omega arith))
        (λ q. absurd (eqb-false (refusal_number x.refusal) 0 q e))))
        (λ z. at_fault 7 refl (omega arith) (not_padded o z) (seven u)))
      where
        right_by : (ComponentWrong im p → ⊥) → padded im at p ≡ true → Right
        right_by r z = record { right = r; zeroed = λ l. padded_reads im at p z (λ e. omega arith) }
    part_by {x} o (View.field u r form f h st) =
        if_ind J (refusal_number x.refusal =? 6) (λ q. absurd (not_six st (eqb-true (refusal_number x.refusal) 6 q)))
        (λ _. if_ind J (padded im at p)
        (λ z. if_ind J x.fielded
        (λ _. field_by_lem x u (record { right = r; zeroed = λ l. padded_reads im at p z (λ e. omega arith) }) form f st)
        (λ y. clash h y))
        (λ z. at_fault 7 refl (omega arith) (not_padded o z) (seven u)))

    -- the check's answer at a component
    pub part_judged : FirstOfParity 0 at p → J (on_component im extent most_fields p s)
    unfolding on_component
    part_judged o = part_by o (view im p)
