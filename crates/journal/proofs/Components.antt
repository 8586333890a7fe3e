-- The components of a line: an editable one holds a field, the first editable one of a list is in it, and what comes after a component of a
-- line is on that line too.
use Prim.Native.Nat.{ℕ, zero, suc, ◌+◌, ◌%◌, ◌≤◌, ◌<◌}
use mathlib.Core.Path.{◌≡◌, refl, sym, ◌∙◌, subst}
use mathlib.Core.Bool.{Bool, true, false, true≢false, false≢true}
use mathlib.Core.Logic.{◌⊎◌, inl, inr}
use mathlib.Core.List.Memᴰ
use mathlib.Core.List.{List, [], ◌∷◌, Memᴰ}
use native.Mathlib.Omega.{arith}
use lib.ListN.{length}
use borrow.Author.Tests.{eqb-true, eqb-false}
use Rattle.laws.specs.Choice.{when◌then◌else◌, ◌=?◌, ◌<?◌}
use Rattle.laws.specs.Bytes.{byte_at, room}
use Rattle.laws.proofs.Cases.{if_ind, if_false, by_test}
use Rattle.field.specs.declared.kind.ImagePlace.{ImagePlace}
use Rattle.cmf.specs.Readers.{tag_bit, texts_from, fixed_bytes, text_count, given, component_refused, component_read, laid_out, component_by, component_at}
use Rattle.cmf.specs.Places.{components_from, rest_of_line, first_editable, next_editable, is_in}
use Rattle.cmf.specs.declared.component.Component.{Component}
use Rattle.cmf.specs.declared.text.Run.{Run}
use Rattle.std.specs.Prelude.{Option, Some, None}
use Rattle.cmf.specs.declared.refusal.Refusal.{Refusal}
use Rattle.cmf.specs.declared.refusal.Refusal.TheVariants as fault
use Rattle.cmf.proofs.Onward.{component_onward}
use Rattle.acceptance.proofs.Parts.{places_last, places_more}
use Rattle.acceptance.proofs.Turns.{turns_more}

-- ---- one component

module _ (im : List ℕ) (c : ℕ) where
  -- what a property of the reader's three results comes to
  pub by_reading : (P : Component → Type 0) → ((r : Refusal) → P (component_refused im c r))
      → ((code tag end : ℕ) (t : Run) → given im c code (tag_bit 32 tag) t ≡ true → P (component_read im c code tag end)) → P (component_at im c)
  unfolding component_at component_by laid_out
  by_reading P bad good =
      if_ind P (c <? length im)
      (λ _. if_ind P ((byte_at im c % 32) <? 0x18)
      (λ _. let t : Run = texts_from im (text_count im c (byte_at im c % 32)) (c + fixed_bytes (byte_at im c % 32) (tag_bit 32 (byte_at im c))) 0 in
      if_ind P (room (length im) c (fixed_bytes (byte_at im c % 32) (tag_bit 32 (byte_at im c))))
      (λ _. if_ind P t.fits
      (λ _. if_ind P (given im c (byte_at im c % 32) (tag_bit 32 (byte_at im c)) t) (λ g. good _ _ _ t g) (λ _. bad fault.Form)) (λ _. bad fault.Cut)) (λ _. bad fault.Cut)) (λ _. bad fault.Form))
      (λ _. bad fault.Cut)

  -- a field is named by the place where it is read
  pub own_place : (component_at im c).field.image.0 ≡ c
  own_place = by_reading (λ x. x.field.image.0 ≡ c) (λ k. refl) (λ code tag end t g. refl)

  -- section 7 gives no string that can be edited: what can be edited holds a field
  abbrev Holding : Component → Type 0
  Holding x = x.editable ≡ true → x.fielded ≡ true

  string_fixed : (tag : ℕ) (t : Run) → given im c 0x15 (tag_bit 32 tag) t ≡ true → tag_bit 32 tag ≡ 0
  unfolding given when◌then◌else◌
  string_fixed tag t g = eqb-true (tag_bit 32 tag) 0 g

  read_holds : (code tag end : ℕ) (t : Run) → given im c code (tag_bit 32 tag) t ≡ true → Holding (component_read im c code tag end)
  unfolding when◌then◌else◌
  read_holds code tag end t g e =
      by_test (code =? 0x15)
      (λ q. let z = string_fixed tag t (rw (eqb-true code 0x15 q) at g) in absurd (false≢true (rw (eqb-true code 0x15 q, z) at e)))
      (λ q. rw q)

  pub editable_holds : (component_at im c).editable ≡ true → (component_at im c).fielded ≡ true
  editable_holds = by_reading Holding (λ k e. absurd (false≢true e)) read_holds

-- ---- lists of components

-- a place that is among others is one of them
pub in_member : (p : ℕ) (cs : List ℕ) → is_in p cs ≡ true → Memᴰ p cs
unfolding is_in
in_member p [] h = absurd (false≢true h)
in_member p (q ∷ qs) h =
    by_test (q =? p) (λ e. Memᴰ.head (sym (eqb-true q p e))) (λ e. Memᴰ.tail (in_member p qs (sym (if_false _ _ e) ∙ h)))

-- and the other way
pub member_in : (p : ℕ) (cs : List ℕ) → Memᴰ p cs → is_in p cs ≡ true
unfolding is_in
member_in p [] m = absurd (Memᴰ.not-nil m)
member_in p (q ∷ qs) m =
    if_ind (λ (t : Bool). t ≡ true) (q =? p) (λ _. refl) (λ e. go (eqb-false q p e) (Memᴰ.cases_cons m) (λ k. member_in p qs k))
  where
    go : (q ≡ p → ⊥) → (p ≡ q) ⊎ Memᴰ p qs → (Memᴰ p qs → is_in p qs ≡ true) → is_in p qs ≡ true
    go d (inl i) later = absurd (d (sym i))
    go d (inr k) later = later k

-- what is found is an editable one of a list
pub data EditableIn (im cs : List ℕ) : Option ImagePlace → Type 0 where
  here : {p : ImagePlace} → Memᴰ p.0 cs → (component_at im p.0).editable ≡ true → EditableIn im cs (Some p)
  none : EditableIn im cs None

-- by what is found
pub by_found : {im cs : List ℕ} {f : Option ImagePlace} (P : Option ImagePlace → Type 0) → EditableIn im cs f
    → ((p : ImagePlace) → Memᴰ p.0 cs → (component_at im p.0).editable ≡ true → P (Some p)) → P None → P f
by_found P (EditableIn.here {p = p} m e) g n = g p m e
by_found P EditableIn.none g n = n

module _ (im : List ℕ) where
  -- it is in a longer list too
  editable_within : (ps qs : List ℕ) (f : Option ImagePlace) → ((q : ℕ) → Memᴰ q ps → Memᴰ q qs) → EditableIn im ps f → EditableIn im qs f
  editable_within ps qs f i h = by_found (EditableIn im qs) h (λ p m e. EditableIn.here (i p.0 m) e) EditableIn.none

  pub first_editable_in : (cs : List ℕ) → EditableIn im cs (first_editable im cs)
  unfolding first_editable
  first_editable_in [] = EditableIn.none
  first_editable_in (p ∷ ps) =
      if_ind (EditableIn im (p ∷ ps)) (component_at im p).editable
      (λ e. EditableIn.here (Memᴰ.head refl) e)
      (λ _. editable_within ps (p ∷ ps) _ (λ q m. Memᴰ.tail m) (first_editable_in ps))

  -- what comes after a component that is not the last of its line is on the line; k bounds the turns, and is enough
  pub after_in : (k c p q : ℕ) → length im < k + c → k ≤ length im + 1 → Memᴰ p (components_from im k c) → (component_at im p).last ≡ false
      → Memᴰ q (components_from im (length im + 1) (component_at im p).next.0) → Memᴰ q (components_from im k c)
  unfolding components_from
  after_in zero c p q h b m l n = absurd (Memᴰ.not-nil m)
  after_in (suc k) c p q h b m l n =
      by_test (component_at im c).last
      (λ e. absurd (true≢false (sym (subst (λ (x : ℕ). (component_at im x).last ≡ true) (sym (Memᴰ.eq_of_singleton (rw (places_last im k c e) at m))) e) ∙ l)))
      (λ e.
      let o = component_onward im c e in
      rw (places_more im k c e)
      (Memᴰ.tail
      (step e o (Memᴰ.cases_cons (rw (places_more im k c e) at m))
      (λ r. after_in k (component_at im c).next.0 p q (omega (arith, o.1)) (omega arith) r l n))))
    where
      step : (component_at im c).last ≡ false → (c < length im) × (c < (component_at im c).next.0)
          → (p ≡ c) ⊎ Memᴰ p (components_from im k (component_at im c).next.0)
          → (Memᴰ p (components_from im k (component_at im c).next.0) → Memᴰ q (components_from im k (component_at im c).next.0))
          → Memᴰ q (components_from im k (component_at im c).next.0)
      step e o (inl i) rest =
          rw (← turns_more im (component_onward im) k (length im + 1) (component_at im c).next.0 (omega arith) (omega (arith, o.0)) (omega (arith, o.1)))
          (rw i at n)
      step e o (inr r) rest = rest r

  -- so the editable component after one of a line is on the line too
  pub next_editable_in : (c p : ℕ) → Memᴰ p (rest_of_line im c) → EditableIn im (rest_of_line im c) (next_editable im p)
  unfolding next_editable
  next_editable_in c p m =
      if_ind (EditableIn im (rest_of_line im c)) (component_at im p).last
      (λ _. EditableIn.none)
      (λ l. editable_within (rest_of_line im (component_at im p).next.0) (rest_of_line im c) _
      (λ q n. after_in (length im + 1) c p q (omega arith) (omega arith) m l n) (first_editable_in (rest_of_line im (component_at im p).next.0)))
