-- The fields that a key names, by the executor's promises: a place is that of at most one one-byte field, so its default is one byte; and the
-- list of fields is read back from their places.
use Prim.Native.Nat.{ℕ, ◌≤◌}
use mathlib.Core.Path.{◌≡◌, refl, sym, ap, ◌∙◌}
use mathlib.Core.Logic.{◌⊎◌, inl, inr}
use mathlib.Core.Bool.{true, false, false≢true}
use mathlib.Core.List.Memᴰ
use mathlib.Core.List.{List, [], ◌∷◌, map, Memᴰ}
use native.Mathlib.Omega.{arith}
use lib.ListN.{length, get_or}
use borrow.Author.Tests.{eqb-true, eq-eqb}
use Rattle.laws.specs.Bytes.{byte_at}
use Rattle.laws.proofs.Cases.{by_test, if_true, if_false, and_i, and_l, and_r}
use Rattle.field.specs.Values.{bytes_of}
use Rattle.field.specs.Sheet.{size_of}
use Rattle.field.specs.declared.record.Field.{Field}
use Rattle.cmf.specs.Grammar.{Holds, WellFormed}
use Rattle.cmf.specs.Places.{fields_of, field_places}
use Rattle.acceptance.specs.Check.{refusal_of}
use Rattle.journal.specs.Rules.{field_at}
use Rattle.promises.specs.Demand2.{FieldPromises}
use Rattle.promises.proofs.Promises.{demand_2}
use Rattle.marker.specs.Marking.{is_byte_at, has_field, default_at}
use Rattle.marker.specs.Promises.{ByteFieldAt, HasField}
use Rattle.marker.specs.Table.{fields_read}
use Rattle.marker.proofs.Tables.{Below}

-- ---- a one-byte field at a place, in a list

is_at : (p : ℕ) (f : Field) → is_byte_at p f ≡ true → (f.sheet.0 ≡ p) × (size_of f ≡ 1)
unfolding is_byte_at
is_at p f h = (eqb-true f.sheet.0 p (and_l _ _ h), eqb-true (size_of f) 1 (and_r _ _ h))

at_is : (p : ℕ) (f : Field) → f.sheet.0 ≡ p → size_of f ≡ 1 → is_byte_at p f ≡ true
unfolding is_byte_at
at_is p f a b = and_i (eq-eqb f.sheet.0 p a) (eq-eqb (size_of f) 1 b)

-- the first of them, with its default
record First (p : ℕ) (fs : List Field) : Type 0 where
  field : Field
  known : Memᴰ field fs
  at : is_byte_at p field ≡ true
  default : default_at p fs ≡ byte_at (bytes_of field.default) 0

first : (p : ℕ) (fs : List Field) → has_field p fs ≡ true → First p fs
unfolding has_field default_at
first p [] h = absurd (false≢true h)
first p (f ∷ fs) h =
    by_test (is_byte_at p f)
    (λ e. record { field = f; known = Memᴰ.head refl; at = e; default = if_true _ _ e })
    (λ e. let r = first p fs (sym (if_false true (has_field p fs) e) ∙ h) in
    record { field = r.field; known = Memᴰ.tail r.known; at = r.at; default = if_false _ _ e ∙ r.default })

has_field_lem : (p : ℕ) (f : Field) (fs : List Field) → Memᴰ f fs → is_byte_at p f ≡ true → has_field p fs ≡ true
unfolding has_field
has_field_lem p f [] m h = absurd (Memᴰ.not-nil m)
has_field_lem p f (g ∷ fs) m h =
    by_test (is_byte_at p g) (λ e. if_true _ _ e)
    (λ e. if_false true (has_field p fs) e ∙ has_field_lem p f fs (elsewhere e (Memᴰ.cases_cons m)) h)
  where
    elsewhere : is_byte_at p g ≡ false → (f ≡ g) ⊎ Memᴰ f fs → Memᴰ f fs
    elsewhere e (inl q) = absurd (false≢true (sym e ∙ ap (is_byte_at p) (sym q) ∙ h))
    elsewhere e (inr k) = k

-- a list of one element
alone : (l : List ℕ) → length l ≡ 1 → l ≡ get_or l 0 0 ∷ []
alone [] h = absurd (omega arith)
alone (x ∷ []) h = refl
alone (x ∷ y ∷ l) h = absurd (omega arith)

-- fields that are what is read at their places
read_back : (im : List ℕ) (fs : List Field) → ((f : Field) → Memᴰ f fs → field_at im f.image.0 ≡ f) → fields_read im (map (λ (f : Field). f.image.0) fs) ≡ fs
unfolding fields_read
read_back im [] h = refl
read_back im (f ∷ fs) h =
    ap (λ (g : Field). g ∷ fields_read im (map (λ (x : Field). x.image.0) fs)) (h f (Memᴰ.head refl))
    ∙ ap (λ (gs : List Field). f ∷ gs) (read_back im fs (λ g m. h g (Memᴰ.tail m)))

-- ---- in an image

module _ (im : List ℕ) where
  pub field_exactly : (p : ℕ) → (has_field p (fields_of im) ≡ true → HasField im p) × (HasField im p → has_field p (fields_of im) ≡ true)
  field_exactly p = (
    λ h. let r = first p (fields_of im) h in
        let a = is_at p r.field r.at in
        record { field = r.field; here = record { known = r.known; one = a.1; place = a.0 } },
    λ n. has_field_lem p n.field (fields_of im) n.here.known (at_is p n.field n.here.place n.here.one),
  )

  module _ (extent : ℕ) (z : refusal_of im extent ≡ 0) where
    pub formed : WellFormed im extent
    formed = ((demand_2 im).accepts.accepted extent).0 z

    -- what is promised of a field
    pub promised : (f : Field) → Memᴰ f (fields_of im) → FieldPromises im extent formed f
    promised f m = (demand_2 im).accepts.every_field extent formed f (rw ((demand_2 im).accepts.listed extent formed) m)

    -- its byte is at p
    holds : (p : ℕ) (f : Field) → is_byte_at p f ≡ true → Holds f p
    holds p f h = let a = is_at p f h in record { from = omega (arith, a.0); to = omega (arith, a.0, a.1) }

    -- the field at a place is the only one there
    pub default_is : (p : ℕ) (f : Field) → ByteFieldAt im p f → bytes_of f.default ≡ default_at p (fields_of im) ∷ []
    default_is p f n =
        let h = at_is p f n.place n.one in
        let r = first p (fields_of im) (has_field_lem p f (fields_of im) n.known h) in
        let e : f ≡ r.field =
        (promised f n.known).alone r.field (rw ((demand_2 im).accepts.listed extent formed) r.known) p (holds p f h) (holds p r.field r.at) in
        alone (bytes_of f.default) ((promised f n.known).sized ∙ n.one)
        ∙ ap (λ (d : ℕ). d ∷ []) (ap (λ (g : Field). byte_at (bytes_of g.default) 0) e ∙ sym r.default)

    -- a one-byte field is in a sheet, which is not longer than the table
    pub fields_below : Below (fields_of im) 4096
    fields_below f m o = let i = (promised f m).inside in omega (arith, i.short, i.inside, o)

    pub few_fields : length (fields_of im) ≤ 256
    few_fields = rw ((demand_2 im).accepts.listed extent formed) at formed.few_fields

    -- what is read at the fields' places is the fields
    pub fields_read_lem : fields_read im (field_places im) ≡ fields_of im
    fields_read_lem = read_back im (fields_of im) (λ f m. (promised f m).named.0)
