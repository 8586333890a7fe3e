-- The fields of a well-formed image: what every component's field has they all have, each is what is read at its place and lies inside the
-- sheet, and any two lie apart.
use Prim.Native.Nat.{ℕ, zero, suc, ◌+◌, ◌≤◌, ◌<◌}
use mathlib.Core.Path.{◌≡◌, refl, sym, ap, ◌∙◌}
use mathlib.Core.Bool.{true, false}
use mathlib.Core.Logic.{◌⊎◌, inl, inr}
use mathlib.Core.List.Memᴰ
use mathlib.Core.List.{List, [], ◌∷◌, ◌++◌, Memᴰ}
use native.Mathlib.Omega.{arith}
use lib.ListN.{length, get_or, length-take}
use borrow.Author.Tests.{leb-true, leb-false, ltb-true, ltb-false}
use Rattle.laws.specs.Choice.{◌≤?◌, ◌<?◌}
use Rattle.laws.specs.Bytes.{byte_at}
use Rattle.laws.specs.Parts.{part_at}
use Rattle.laws.specs.Overwrite.{fit}
use Rattle.laws.proofs.Cases.{by_test, if_ind, if_min}
use Rattle.laws.proofs.Overwriting.{length_fit}
use Rattle.field.specs.Formats.{format_of}
use Rattle.field.specs.Profiles.{profile_of}
use Rattle.field.specs.Values.{bytes_of}
use Rattle.field.specs.Sheet.{size_of}
use Rattle.field.specs.declared.kind.Kind.{Kind}
use Rattle.field.specs.declared.kind.Kind.TheVariants.{Integer, Counter, Time, Date, Switch, Option}
use Rattle.field.specs.declared.record.Field.{Field}
use Rattle.field.proofs.Bounds.{profile_bytes}
use Rattle.field.proofs.Apart.{LieApart}
use Rattle.cmf.specs.Layouts.{Component, Components, code, field_with, counter_settings_at, integer_at, counter_at, time_long_at, time_short_at, date_long_at, date_short_at, switch_at, option_at, trigger_at}
use Rattle.cmf.specs.Grammar.{Line, Lines, Table, Every, Disjoint, Apart, WellFormed}
use Rattle.cmf.specs.Readers.{component_at}
use Rattle.cmf.specs.Places.{held_by}
use Rattle.cmf.specs.declared.component.Component as read
use Rattle.cmf.proofs.Agreeing.{agree}
use Rattle.acceptance.proofs.Takes.{no_shared}

-- ---- every field of a list

every_join : {P : Field → Type 0} {fs gs : List Field} → Every P fs → Every P gs → Every P (fs ++ gs)
every_join Every.none q = q
every_join (Every.add p ps) q = Every.add p (every_join ps q)

-- of one at a place
pub every_at : {P : Field → Type 0} {fs : List Field} → Every P fs → (d : Field) (i : ℕ) → i < length fs → P (get_or fs i d)
every_at Every.none d i h = absurd (omega arith)
every_at (Every.add p ps) d zero h = p
every_at (Every.add p ps) d (suc i) h = every_at ps d i (omega arith)

-- of one that is in it
pub every_in : {P : Field → Type 0} {fs : List Field} → Every P fs → (f : Field) → Memᴰ f fs → P f
every_in Every.none f m = absurd (Memᴰ.not-nil m)
every_in {P} (Every.add {f = g} {fs = fs} p ps) f m = go (Memᴰ.cases_cons m) (every_in ps f)
  where
    go : (f ≡ g) ⊎ Memᴰ f fs → (Memᴰ f fs → P f) → P f
    go (inl e) rest = rw e p
    go (inr i) rest = rest i

-- ---- every field of a table

module _ (im : List ℕ) (P : Field → Type 0) (component : (at end : ℕ) (fs : List Field) → Component im at end fs → Every P fs) where
  every_components : {at end : ℕ} {fs : List Field} → Components im at end fs → Every P fs
  every_components (Components.last p a x l) = component _ _ _ x
  every_components (Components.more p mid a x l r) = every_join (component _ _ _ x) (every_components r)

  module _ (Sub : ℕ → List Field → ℕ → Type 0) (below : (t : ℕ) (fs : List Field) (k : ℕ) → Sub t fs k → Every P fs) where
    every_line : {n before p end k : ℕ} {fs : List Field} → Line im Sub n before p end fs k → Every P fs
    every_line (Line.plain mid h cs b) = every_components cs
    every_line (Line.submenu mid h cs b s) = every_join (every_components cs) (below _ _ _ s)

    every_lines : {n before p k : ℕ} {fs : List Field} → Lines im Sub n before p fs k → Every P fs
    every_lines (Lines.last end f l b) = every_line l
    every_lines (Lines.more end f l b a r) = every_join (every_line l) (every_lines r)

  -- what holds of each component's field holds of a table's
  pub every_table : (left t : ℕ) (fs : List Field) (k : ℕ) → Table im left t fs k → Every P fs
  unfolding Table
  every_table zero t fs k x = absurd x
  every_table (suc left) t fs k x = every_lines (Table im left) (every_table left) x.lines

-- ---- what is read at a field's place is the field, and its default has its size

pub record InImage (im : List ℕ) (f : Field) : Type 0 where
  pub reads : (component_at im f.image.0).field ≡ f
  pub sized : length (bytes_of f.default) ≡ size_of f

-- a component whose fields are one has that field
pub held_is : (c : read.Component) (f : Field) → held_by c ≡ f ∷ [] → c.field ≡ f
held_is c f =
    if_ind (λ (l : List Field). l ≡ f ∷ [] → c.field ≡ f) c.fielded (λ _ e. cc)
    (λ _ e. let z : ◌≡◌ {A = ℕ} 0 1 = cc in absurd (omega arith))

module _ (im : List ℕ) where
  in_image_by : (at end : ℕ) (f : Field) → Component im at end (f ∷ []) → f.image.0 ≡ at → length (bytes_of f.default) ≡ size_of f → Every (InImage im) (f ∷ [])
  in_image_by at end f c e n =
      let r : (component_at im f.image.0).field ≡ f =
      ap (λ (x : ℕ). (component_at im x).field) e ∙ held_is (component_at im at) f ((agree im).component_is c).fields in
      let s : InImage im f = record { reads = r; sized = n } in
      Every.add s Every.none

  sized_at : (at : ℕ) (k : Kind) (d : ℕ) → length (bytes_of (field_with im at k d).default) ≡ size_of (field_with im at k d)
  sized_at at k d =
      let n = (profile_of k).bytes in
      omega (arith, profile_bytes k, length-take n (fit 0 4 (part_at d n im)), length_fit 0 4 (part_at d n im))

  component_in_image : (at end : ℕ) (fs : List Field) → Component im at end fs → Every (InImage im) fs
  unfolding profile_of
  component_in_image at end fs (Component.integer k l g) = in_image_by at end (integer_at im at) (Component.integer k l g) refl (sized_at at (Integer (format_of (code im at))) (at + 6))
  component_in_image at end fs (Component.counter k l g) = in_image_by at end (counter_at im at) (Component.counter k l g) refl (sized_at at (Counter (counter_settings_at im at)) (at + 12))
  component_in_image at end fs (Component.time_long k l g) = in_image_by at end (time_long_at im at) (Component.time_long k l g) refl (sized_at at (Time true) (at + 6))
  component_in_image at end fs (Component.time_short k l g) = in_image_by at end (time_short_at im at) (Component.time_short k l g) refl (sized_at at (Time false) (at + 6))
  component_in_image at end fs (Component.date_long k l g) = in_image_by at end (date_long_at im at) (Component.date_long k l g) refl (sized_at at (Date true) (at + 6))
  component_in_image at end fs (Component.date_short k l g) = in_image_by at end (date_short_at im at) (Component.date_short k l g) refl (sized_at at (Date false) (at + 6))
  component_in_image at end fs (Component.switch k l g) = in_image_by at end (switch_at im at) (Component.switch k l g) refl (sized_at at (Switch (byte_at im (at + 7))) (at + 10))
  component_in_image at end fs (Component.option k l g) = in_image_by at end (option_at im at) (Component.option k l g) refl (sized_at at (Option (byte_at im (at + 7)) (byte_at im (at + 8))) (at + 9))
  component_in_image at end fs (Component.constant k e t) = Every.none
  component_in_image at end fs (Component.trigger k l) = in_image_by at end (trigger_at im at) (Component.trigger k l) refl refl

-- ---- apart

-- a field that has no byte in the sheet is put down at the sheet's start
pub record Rooted (f : Field) : Type 0 where
  pub rooted : size_of f ≡ 0 → f.sheet.0 ≡ 0

rooted_some : (f : Field) → 1 ≤ size_of f → Every Rooted (f ∷ [])
rooted_some f h = let r : Rooted f = record { rooted = λ e. absurd (omega arith) } in Every.add r Every.none

pub component_rooted : (im : List ℕ) (at end : ℕ) (fs : List Field) → Component im at end fs → Every Rooted fs
unfolding profile_of
component_rooted im at end fs (Component.integer c l g) = rooted_some _ (if_min _ {x = 2} {y = 1} (omega arith) (omega arith))
component_rooted im at end fs (Component.counter c l g) = rooted_some _ (omega arith)
component_rooted im at end fs (Component.time_long c l g) = rooted_some _ (if_min _ {x = 3} {y = 2} (omega arith) (omega arith))
component_rooted im at end fs (Component.time_short c l g) = rooted_some _ (if_min _ {x = 3} {y = 2} (omega arith) (omega arith))
component_rooted im at end fs (Component.date_long c l g) = rooted_some _ (if_min _ {x = 4} {y = 3} (omega arith) (omega arith))
component_rooted im at end fs (Component.date_short c l g) = rooted_some _ (if_min _ {x = 4} {y = 3} (omega arith) (omega arith))
component_rooted im at end fs (Component.switch c l g) = rooted_some _ (omega arith)
component_rooted im at end fs (Component.option c l g) = rooted_some _ (omega arith)
component_rooted im at end fs (Component.constant c b x) = Every.none
component_rooted im at end fs (Component.trigger c l) = Every.add (record { rooted = λ e. refl }) Every.none

-- two such fields that share no byte lie one before the other
pub disjoint_apart : (f g : Field) → Rooted f → Rooted g → Disjoint f g → LieApart f g
disjoint_apart f g r q d =
    by_test ((f.sheet.0 + size_of f) ≤? g.sheet.0) (λ e. inl (leb-true (f.sheet.0 + size_of f) g.sheet.0 e))
    (λ a. by_test ((g.sheet.0 + size_of g) ≤? f.sheet.0) (λ e. inr (leb-true (g.sheet.0 + size_of g) f.sheet.0 e))
    (λ b. absurd (neither (leb-false (f.sheet.0 + size_of f) g.sheet.0 a) (leb-false (g.sheet.0 + size_of g) f.sheet.0 b))))
  where
    neither : g.sheet.0 < f.sheet.0 + size_of f → f.sheet.0 < g.sheet.0 + size_of g → ⊥
    neither a b = no_shared f g d (λ z. omega (arith, r.rooted z)) (λ z. omega (arith, q.rooted z)) a b

swap : (f g : Field) → LieApart f g → LieApart g f
swap f g (inl h) = inr h
swap f g (inr h) = inl h

apart_later : {fs : List Field} → Every Rooted fs → Apart fs → (d : Field) (i j : ℕ) → i < j → j < length fs → LieApart (get_or fs i d) (get_or fs j d)
apart_later Every.none Apart.none d i j l h = absurd (omega arith)
apart_later (Every.add r rs) (Apart.add e a) d i zero l h = absurd (omega arith)
apart_later (Every.add r rs) (Apart.add e a) d zero (suc j) l h =
    disjoint_apart _ _ r (every_at rs d j (omega arith)) (every_at e d j (omega arith))
apart_later (Every.add r rs) (Apart.add e a) d (suc i) (suc j) l h = apart_later rs a d i j (omega arith) (omega arith)

apart_in : {fs : List Field} → Every Rooted fs → Apart fs → (f g : Field) → Memᴰ f fs → Memᴰ g fs → (f ≡ g) ⊎ LieApart f g
apart_in Every.none Apart.none f g m n = absurd (Memᴰ.not-nil m)
apart_in (Every.add {f = x} {fs = xs} r rs) (Apart.add e a) f g m n = go (Memᴰ.cases_cons m) (Memᴰ.cases_cons n) (apart_in rs a f g)
  where
    go : (f ≡ x) ⊎ Memᴰ f xs → (g ≡ x) ⊎ Memᴰ g xs → (Memᴰ f xs → Memᴰ g xs → (f ≡ g) ⊎ LieApart f g) → (f ≡ g) ⊎ LieApart f g
    go (inl p) (inl q) rest = inl (p ∙ sym q)
    go (inl p) (inr k) rest = inr (rw p (disjoint_apart x g r (every_in rs g k) (every_in e g k)))
    go (inr k) (inl q) rest = inr (rw q (swap x f (disjoint_apart x f r (every_in rs f k) (every_in e f k))))
    go (inr k) (inr l) rest = rest k l

module _ (im : List ℕ) (extent : ℕ) (w : WellFormed im extent) where
  pub all_rooted : Every Rooted w.fields
  all_rooted = every_table im Rooted (component_rooted im) _ _ _ _ w.table

  pub all_in_image : Every (InImage im) w.fields
  all_in_image = every_table im (InImage im) (component_in_image im) _ _ _ _ w.table

  -- fields at different positions lie apart
  pub fields_apart : (d : Field) (i j : ℕ) → (i ≡ j → ⊥) → i < length w.fields → j < length w.fields → LieApart (get_or w.fields i d) (get_or w.fields j d)
  fields_apart d i j n hi hj =
      by_test (i <? j) (λ e. apart_later all_rooted w.apart d i j (ltb-true i j e) hj)
      (λ e. swap (get_or w.fields j d) (get_or w.fields i d) (apart_later all_rooted w.apart d j i (omega (arith, ltb-false i j e)) hi))

  -- and so do two different fields
  pub others_apart : (f g : Field) → Memᴰ f w.fields → Memᴰ g w.fields → (f ≡ g) ⊎ LieApart f g
  others_apart f g m n = apart_in all_rooted w.apart f g m n

  -- each lies inside the sheet
  pub field_inside : (f : Field) → Memᴰ f w.fields → f.sheet.0 + size_of f ≤ extent
  field_inside f m = (every_in w.inside f m).inside

  pub inside_at : (d : Field) (i : ℕ) → i < length w.fields → (get_or w.fields i d).sheet.0 + size_of (get_or w.fields i d) ≤ extent
  inside_at d i h = (every_at w.inside d i h).inside
