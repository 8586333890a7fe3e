-- An option text that is not refused is the item's own bytes, all of them in the image, and the items are one after the other:
-- the place is that of a field of a well-formed image, and section 7 has an option's texts there.
use Prim.Native.Nat.{ℕ, zero, suc, ◌+◌, ◌-◌, ◌≤◌, ◌<◌}
use mathlib.Core.Path.{◌≡◌, refl, sym, ◌∙◌}
use mathlib.Core.Bool.{Bool, true, false≢true}
use mathlib.Core.List.{List, [], ◌∷◌, map}
use native.Mathlib.Omega.{arith}
use lib.ListN.{length}
use borrow.Author.Tests.{eqb-true, ltb-true, ltb-false}
use Rattle.laws.specs.Choice.{when◌then◌else◌, ◌=?◌, ◌<?◌}
use Rattle.laws.specs.Bytes.{byte_at}
use Rattle.laws.specs.Parts.{part_at}
use Rattle.laws.proofs.Cases.{if_ind, by_test, if_lt, if_ge, and_l, and_r}
use Rattle.field.specs.declared.record.Field.{Field}
use Rattle.cmf.specs.Layouts.{Texts, Component}
use Rattle.cmf.specs.Grammar.{Every, WellFormed}
use Rattle.cmf.specs.Readers.{item_from, item_place, component_at}
use Rattle.cmf.specs.Places.{field_places, is_in}
use Rattle.cmf.proofs.Agreeing.{agree}
use Rattle.acceptance.specs.Check.{refusal_of}
use Rattle.acceptance.proofs.Acceptance.{accepted_exactly_when_well_formed, fields_are}
use Rattle.acceptance.proofs.Fields.{held_is, every_table}
use Rattle.handset.specs.OptionText.{TextPlace, items_in, text_refusal, text_span, text_place, option_text, ItemIs}
use Rattle.handset.proofs.Ordering.{none_before, none_unless}
use Rattle.handset.proofs.Finding.{place_none, place_some, place_refusal}

-- ---- texts one after the other

module _ (im : List ℕ) where
  -- after a text that begins in the image the next ones are counted from its end
  step : (k at : ℕ) → at < length im → item_from im (suc k) at ≡ item_from im k (at + 1 + byte_at im at)
  unfolding item_from
  step k at h = if_lt at (length im) _ _ h

  -- of texts of the grammar each is in the image
  items_inside :
      {n at end longest : ℕ} → Texts im n at end longest → (k : ℕ) → k < n →
      item_from im k at + 1 + byte_at im (item_from im k at) ≤ length im
  unfolding item_from
  items_inside Texts.none k h = absurd (omega arith)
  items_inside (Texts.more mid t ts) zero h = omega (arith, t.ends, t.inside)
  items_inside {at = at} (Texts.more mid t ts) (suc k) h =
      rw (step k at (omega (arith, t.ends, t.inside)), ← t.ends) (items_inside ts k (omega arith))

  -- after a text that is all in the image comes the next
  texts_turn :
      (k at : ℕ) → item_from im k at + 1 + byte_at im (item_from im k at) ≤ length im →
      item_from im (suc k) at ≡ item_from im k at + 1 + byte_at im (item_from im k at)
  unfolding item_from
  texts_turn zero at h = if_lt at (length im) _ _ (omega arith)
  texts_turn (suc k) at h =
      by_test (at <? length im)
      (λ e. let s = step k at (ltb-true at (length im) e) in
      step (suc k) at (ltb-true at (length im) e) ∙ rw s (texts_turn k (at + 1 + byte_at im at) (rw s at h)))
      (λ e. let s : item_from im (suc k) at ≡ at = if_ge at (length im) _ _ (ltb-false at (length im) e) in
      absurd (omega (arith, rw s at h, ltb-false at (length im) e)))

-- ---- the items of a field

-- all items of the component at a place are in the image
record ItemsInside (im : List ℕ) (place : ℕ) : Type 0 where
  inside :
      (item : ℕ) → item < items_in (component_at im place).field.kind →
      item_place im place item + 1 + byte_at im (item_place im place item) ≤ length im

-- and so at the place of each of some fields
abbrev AllInside : List ℕ → List Field → Type 0
AllInside im fs = Every (λ (f : Field). ItemsInside im f.image.0) fs

-- a field that is no option has no items
none_inside : (im : List ℕ) (end : ℕ) (f : Field) → items_in f.kind ≡ 0 → Component im f.image.0 end (f ∷ []) → AllInside im (f ∷ [])
none_inside im end f z c =
    let k = held_is (component_at im f.image.0) f ((agree im).component_is c).fields in
    Every.add {f = f} (record { inside = λ item h. absurd (omega (arith, rw (k, z) at h)) }) Every.none

-- an option's items are texts of the grammar, and no other component has items
component_inside : (im : List ℕ) (at end : ℕ) (fs : List Field) → Component im at end fs → AllInside im fs
unfolding items_in
component_inside im at end fs (Component.integer c l g) = none_inside im end _ refl (Component.integer c l g)
component_inside im at end fs (Component.counter c l g) = none_inside im end _ refl (Component.counter c l g)
component_inside im at end fs (Component.time_long c l g) = none_inside im end _ refl (Component.time_long c l g)
component_inside im at end fs (Component.time_short c l g) = none_inside im end _ refl (Component.time_short c l g)
component_inside im at end fs (Component.date_long c l g) = none_inside im end _ refl (Component.date_long c l g)
component_inside im at end fs (Component.date_short c l g) = none_inside im end _ refl (Component.date_short c l g)
component_inside im at end fs (Component.switch c l g) = none_inside im end _ refl (Component.switch c l g)
component_inside im at end fs (Component.option c l g) =
    let k = held_is (component_at im at) _ ((agree im).component_is (Component.option c l g)).fields in
    Every.add (record { inside = λ item h. items_inside im l.items item (rw k at h) }) Every.none
component_inside im at end fs (Component.constant c b x) = Every.none
component_inside im at end fs (Component.trigger c l) = none_inside im end _ refl (Component.trigger c l)

-- a place that was reached is that of a field, so its items are in the image
reached_inside :
    (im : List ℕ) (place : ℕ) {fs : List Field} → AllInside im fs → is_in place (map (λ (f : Field). f.image.0) fs) ≡ true → ItemsInside im place
unfolding is_in
reached_inside im place Every.none h = absurd (false≢true h)
reached_inside im place (Every.add {f = f} p ps) h =
    if_ind (λ (b : Bool). b ≡ true → ItemsInside im place) (f.image.0 =? place)
    (λ e _. rw (eqb-true f.image.0 place e) at p) (λ _ g. reached_inside im place ps g) h

-- ---- the call

-- what is known of a call that is not refused
record Granted (im : List ℕ) (extent place item : ℕ) : Type 0 where
  accepted : refusal_of im extent ≡ 0
  found : is_in place (field_places im) ≡ true
  one : item < items_in (component_at im place).field.kind

-- a refusal of 0 has passed every test
granted : (im : List ℕ) (extent place item : ℕ) → text_refusal im extent place item ≡ 0 → Granted im extent place item
unfolding text_refusal
granted im extent place item h =
    let a = none_before _ _ h in
    let b = none_unless 14 _ (λ z. omega arith) a.1 in
    record {
      accepted = a.0;
      found = and_l _ _ b;
      one = ltb-true item (items_in (component_at im place).field.kind) (and_r _ _ b);
    }

-- whenever the call is not refused the item is all in the image
pub item_inside :
    (im : List ℕ) (extent place item : ℕ) → text_refusal im extent place item ≡ 0 →
    item_place im place item + 1 + byte_at im (item_place im place item) ≤ length im
item_inside im extent place item z =
    (reached_inside im place all (rw (← fields_are im extent w) at g.found)).inside item g.one
  where
    g : Granted im extent place item
    g = granted im extent place item z

    w : WellFormed im extent
    w = (accepted_exactly_when_well_formed im extent).0 g.accepted

    all : AllInside im w.fields
    all = every_table im _ (component_inside im) _ _ _ _ w.table

-- and the answer is the item's own bytes
pub item_is : (im : List ℕ) (extent place item : ℕ) → text_refusal im extent place item ≡ 0 → ItemIs im place item (option_text im extent place item)
unfolding option_text
item_is im extent place item z =
    record { inside = item_inside im extent place item z; bytes = rw (place_some im extent place item z) }

-- the part that the call shows is in the image, refused or not
pub part_inside :
    (im : List ℕ) (extent place item : ℕ) →
    (text_place im extent place item).start.0 + (text_place im extent place item).length ≤ length im
unfolding text_place
part_inside im extent place item =
    let k = text_refusal im extent place item in
    if_ind (λ (t : TextPlace). t.start.0 + t.length ≤ length im) (k =? 0)
    (λ e. item_inside im extent place item (eqb-true k 0 e)) (λ _. omega arith)

-- what is shown where the code has found the place
module _ (im : List ℕ) (extent place item : ℕ) {t : TextPlace} (e : t ≡ text_place im extent place item) where
  pub shown_inside : t.start.0 + t.length ≤ length im
  shown_inside = rw e (part_inside im extent place item)

  pub shown : part_at t.start.0 (t.start.0 + t.length - t.start.0) im ≡ option_text im extent place item
  unfolding option_text
  shown =
      let z : t.start.0 + t.length - t.start.0 ≡ t.length = omega arith in
      rw (z, e)

  pub shown_refusal : t.refusal ≡ text_refusal im extent place item
  shown_refusal = rw e (place_refusal im extent place item)

-- texts come no earlier than the first
from_on : (im : List ℕ) (k at : ℕ) → at ≤ item_from im k at
unfolding item_from
from_on im zero at = omega arith
from_on im (suc k) at =
    if_ind (λ (p : ℕ). at ≤ p) (at <? length im) (λ _. omega (arith, from_on im k (at + 1 + byte_at im at))) (λ _. omega arith)

-- the call by what the code finds: the refusal, and for a text that is given the item's place
module _ (im : List ℕ) (extent place item k : ℕ) (q : k ≡ text_refusal im extent place item) where
  pub not_placed : (k ≡ 0 → ⊥) → text_span k 0 0 ≡ text_place im extent place item
  not_placed h = rw q (sym (place_none im extent place item (rw q at h)))

  module _ (z : k ≡ 0) (p : ℕ) (e : p ≡ (when place <? length im then item_place im place item else 0)) where
    found : p ≡ item_place im place item
    found =
        e ∙ if_lt place (length im) _ _ (omega (arith, item_inside im extent place item (sym q ∙ z), from_on im item (place + 10)))

    pub placed_inside : p + 1 ≤ length im
    placed_inside = rw found (omega (arith, item_inside im extent place item (sym q ∙ z)))

    pub placed : (n : ℕ) → n ≡ byte_at im p → text_span 0 (p + 1) n ≡ text_place im extent place item
    placed n f = rw (f, found) (sym (place_some im extent place item (sym q ∙ z)))

-- the first item is after the ten bytes of 7.5.21
pub first_item : (im : List ℕ) (place : ℕ) → item_place im place 0 ≡ place + 10
unfolding item_from
first_item im place = refl

-- and after each item that is all in the image comes the next
pub items_in_turn :
    (im : List ℕ) (place item : ℕ) → item_place im place item + 1 + byte_at im (item_place im place item) ≤ length im →
    item_place im place (item + 1) ≡ item_place im place item + 1 + byte_at im (item_place im place item)
items_in_turn im place item h = let z : item + 1 ≡ suc item = omega arith in rw z (texts_turn im item (place + 10) h)
