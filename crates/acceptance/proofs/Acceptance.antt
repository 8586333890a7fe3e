-- The theorem that users rely on: an image is accepted exactly when it is well formed, and then the walk's counts and index are those
-- of the grammar. The readers agree with the grammar (crate cmf), so nothing is left as a premise.
use Prim.Native.Nat.{ℕ, ◌+◌, ◌≤◌}
use mathlib.Core.Path.{◌≡◌, refl, sym, ap, ◌∙◌}
use mathlib.Core.List.{List, [], ◌∷◌, map}
use native.Mathlib.Omega.{arith}
use lib.ListN.{length, length-map}
use Rattle.cmf.specs.Refusals.{refusal_number}
use Rattle.field.specs.declared.record.Field.{Field}
use Rattle.cmf.specs.Limits.{most_fields}
use Rattle.cmf.specs.Grammar.{WellFormed}
use Rattle.cmf.specs.Places.{components_from, fields_of, field_places}
use Rattle.cmf.proofs.Agreeing.{agree}
use Rattle.cmf.proofs.Onward.{component_onward}
use Rattle.acceptance.specs.Check.{state, entry_of, checked, refusal_of}
use Rattle.acceptance.proofs.Accepted as accepted
use Rattle.acceptance.specs.Index.{listed, seen, index_of}
use Rattle.acceptance.specs.declared.index.Entry.{Entry}
use Rattle.acceptance.specs.declared.progress.Progress.{Progress}
use Rattle.acceptance.proofs.Indexed.{listed_index}
use Rattle.acceptance.proofs.Places as places
use Rattle.acceptance.proofs.Turns as turns

-- an entry has its field's place
entry_places : (fs : List Field) → map (λ (e : Entry). e.place.0) (map entry_of fs) ≡ map (λ (f : Field). f.image.0) fs
entry_places [] = refl
entry_places (f ∷ fs) = ap (λ (ps : List ℕ). f.image.0 ∷ ps) (entry_places fs)

module _ (im : List ℕ) (extent : ℕ) where
  pub accepted_exactly_when_well_formed : (refusal_of im extent ≡ 0 → WellFormed im extent) × (WellFormed im extent → refusal_of im extent ≡ 0)
  accepted_exactly_when_well_formed = accepted.accepted_exactly_when_well_formed im extent (agree im)

  -- the walk's lines, fields and index are the derivation's
  pub counted : (w : WellFormed im extent) → accepted.Counted im extent w
  counted w = accepted.counted im extent (agree im) w

  -- the fields of a well-formed image are those that a walk over its tables, lines and components reaches
  pub fields_are : (w : WellFormed im extent) → w.fields ≡ fields_of im
  fields_are w = places.fields_are im (agree im) extent w

  -- and so are the check's, where it refuses nothing
  pub checked_fields : refusal_of im extent ≡ 0 → (checked im extent).fields ≡ map entry_of (fields_of im)
  checked_fields z = let w = accepted_exactly_when_well_formed.0 z in (counted w).index ∙ ap (map entry_of) (fields_are w)

  -- so the places in its index are the fields'
  pub checked_places : refusal_of im extent ≡ 0 → map (λ (e : Entry). e.place.0) (checked im extent).fields ≡ field_places im
  checked_places z = ap (map (λ (e : Entry). e.place.0)) (checked_fields z) ∙ entry_places (fields_of im)

  -- what the check hands out is read back, where it refuses nothing
  pub index_read : (v : Progress) (xs : List ℕ) → v ≡ (checked im extent).progress → xs ≡ index_of (checked im extent).fields → refusal_number v.refusal ≡ 0 → seen v xs ≡ checked im extent
  unfolding refusal_of
  index_read v xs e f z =
      let w = accepted_exactly_when_well_formed.0 (ap (λ (u : Progress). refusal_number u.refusal) (sym e) ∙ z) in
      let c = counted w in
      let n : (checked im extent).progress.fields ≡ length (checked im extent).fields = c.fields ∙ sym (length-map w.fields entry_of) ∙ ap length (sym c.index) in
      let few : length (checked im extent).fields ≤ most_fields = omega (arith, n, c.fields, w.few_fields) in
      let q : listed xs v.fields ≡ (checked im extent).fields = rw (e, f, n) (listed_index (checked im extent).fields few) in
      ap (λ (es : List Entry). state v es) q ∙ ap (λ (u : Progress). state u (checked im extent).fields) e

-- an image is read in one way only: its fields do not depend on the sheet
pub same_fields : (im : List ℕ) (a b : ℕ) (v : WellFormed im a) (w : WellFormed im b) → v.fields ≡ w.fields
same_fields im a b v w = fields_are im a v ∙ sym (fields_are im b w)

-- a bound on the components of a line beyond the image's length changes nothing
pub components_enough : (im : List ℕ) (c k : ℕ) → length im + 1 ≤ k → components_from im k c ≡ components_from im (length im + 1) c
components_enough im c k h = turns.components_enough im (component_onward im) c k h
