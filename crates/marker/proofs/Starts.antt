-- The table before the first question: the fields of an accepted image are entered in zeros, so it knows them all, and has at most 256 open
-- places.
use Prim.Native.Nat.{ℕ, ◌%◌, ◌≤◌}
use mathlib.Core.Path.{◌≡◌, refl, sym, ap, ◌∙◌}
use mathlib.Core.Bool.{Bool, true}
use mathlib.Core.List.{List, []}
use native.Mathlib.Omega.{arith}
use lib.ListN.{length, get_or, take, length-map, get_or-eq_default}
use Rattle.std.specs.Prelude.{Result, Ok, Err}
use borrow.Author.Tests.{ltb-true, ltb-false}
use Rattle.laws.specs.Choice.{when◌then◌else◌, ◌=?◌, ◌<?◌}
use Rattle.laws.specs.Overwrite.{fit}
use Rattle.laws.proofs.Cases.{by_test, if_true, if_false, if_eq, if_ne, and_r, and_true, and_false}
use Rattle.laws.proofs.Overwriting.{length_fit, fit_at, take_fit}
use Rattle.field.specs.declared.record.Field.{Field}
use Rattle.cmf.specs.Refusals as refusals
use Rattle.cmf.specs.Refusals.{number}
use Rattle.cmf.specs.declared.refusal.Refusal.{Refusal}
use Rattle.cmf.proofs.Numbers.{number_positive}
use Rattle.cmf.specs.Places.{fields_of, field_places}
use Rattle.acceptance.specs.Check.{refusal_of}
use Rattle.handset.specs.Refusals.{◌before◌, ◌unless◌}
use Rattle.handset.specs.Fields.{places_listed}
use Rattle.marker.specs.Key.{questions_of}
use Rattle.marker.specs.Marking.{key_fits, mark_refusal, points_in, sum_of, as_marked, marked, refusal_in}
use Rattle.marker.specs.Table.{with_fields, fields_read, open_in, no_points, marked_all}
use Rattle.marker.specs.declared.verdict.Verdict.TheVariants as verdict
use Rattle.marker.specs.Answer.{Marked as marks}
use Rattle.marker.specs.declared.mark.Sums.{Sums}
use Rattle.marker.proofs.Tables.{entered, open_fields}
use Rattle.marker.proofs.Naming.{fields_below, few_fields, fields_read_lem}
use Rattle.marker.proofs.Marks.{Knows, knows_first, points_open, sums_same, summed, marked_known, number_told}

-- zeros, as many as a sheet may have bytes
abbrev pub zeros : List ℕ
zeros = fit 0 4096 []

all_zero : (x : ℕ) → get_or zeros x 0 ≡ 0
all_zero x =
    by_test (x <? 4096) (λ e. fit_at 0 4096 [] x (ltb-true x 4096 e))
    (λ e. get_or-eq_default zeros 0 {n = x} (omega (arith, ltb-false x 4096 e, length_fit 0 4096 [])))

module _ (im : List ℕ) (extent : ℕ) (z : refusal_of im extent ≡ 0) where
  knows_all : Knows (fields_of im) [] (with_fields (fields_of im) zeros)
  knows_all =
      knows_first (fields_of im) (with_fields (fields_of im) zeros)
      (entered (fields_of im) zeros all_zero (rw (length_fit 0 4096 []) (fields_below im extent z)))

  few_open : open_in (with_fields (fields_of im) zeros) ≤ 256
  few_open = omega (arith, open_fields (fields_of im) zeros all_zero, few_fields im extent z)

  -- a key that fits has few points
  pub few_points : (key : List ℕ) → key_fits (fields_of im) key ≡ true → points_in (questions_of key) ≤ 65280
  unfolding key_fits
  few_points key h = omega (arith, few_open, points_open (fields_of im) (questions_of key) [] (with_fields (fields_of im) zeros) knows_all (and_r _ _ h))

  -- the list of fields has them all
  listed : places_listed im extent ≡ field_places im
  unfolding places_listed
  listed = if_eq _ 0 _ _ z

  few_places : length (field_places im) ≤ 256
  few_places = omega (arith, few_fields im extent z, length-map (fields_of im) (λ (f : Field). f.image.0))

  module _ (count : ℕ) (places : List ℕ) (c : count ≡ length (places_listed im extent)) (p : places ≡ fit 0 256 (places_listed im extent)) where
    -- they are read back from it, and it has room for its count
    list_read : fields_read im (take count places) ≡ fields_of im
    list_read = ap (fields_read im) (rw (p, c, listed) (take_fit 0 256 (length (field_places im)) (field_places im) refl few_places)) ∙ fields_read_lem im extent z

    pub list_room : count ≤ length places
    list_room = omega (arith, c ∙ ap length listed, ap length p, length_fit 0 256 (places_listed im extent), few_places)

-- ---- the answers of the call

pub refused_order : (im : List ℕ) (extent : ℕ) (key : List ℕ)
    → mark_refusal im extent key ≡ (when refusal_of im extent =? 0 then (when key_fits (fields_of im) key then 0 else 15) else refusal_of im extent)
unfolding mark_refusal ◌before◌ ◌unless◌
refused_order im extent key = refl

-- for an accepted image the key decides
pub by_key : (im : List ℕ) (extent : ℕ) (key : List ℕ) → refusal_of im extent ≡ 0 → mark_refusal im extent key ≡ (when key_fits (fields_of im) key then 0 else 15)
by_key im extent key z = refused_order im extent key ∙ if_eq _ 0 _ _ z

-- the code's answer has the number that its form here has
number_same : (r : Result Sums Refusal) → refusals.refusal_in r ≡ refusal_in (as_marked r)
unfolding refusal_in
number_same (Ok s) = refl
number_same (Err r) = refl

module _ (im sheet key : List ℕ) (k : ℕ) (q : k ≡ refusal_of im (length sheet)) where
  -- an answer has its number
  abbrev Answers : Result Sums Refusal → Type 0
  Answers r = (as_marked r ≡ marked im sheet key) × (refusal_in (as_marked r) ≡ mark_refusal im (length sheet) key) × (refusals.refusal_in r ≡ mark_refusal im (length sheet) key)

  with_number : (r : Result Sums Refusal) → as_marked r ≡ marked im sheet key → Answers r
  with_number r e = (e, number_told im sheet key (as_marked r) e, number_same r ∙ number_told im sheet key (as_marked r) e)

  -- the answer where r is the refusal
  refused_with_lem : (r : Refusal) → mark_refusal im (length sheet) key ≡ number r → Answers (Err r)
  unfolding marked
  refused_with_lem r e = with_number (Err r) (sym (if_ne _ 0 _ _ (λ (z : mark_refusal im (length sheet) key ≡ 0). omega (arith, number_positive r, sym e ∙ z)) ∙ ap marks.Refused e))

  pub image_refused : (r : Refusal) → k ≡ number r → Answers (Err r)
  unfolding mark_refusal ◌before◌
  image_refused r e = refused_with_lem r (if_ne _ 0 _ _ (λ (z : refusal_of im (length sheet) ≡ 0). omega (arith, number_positive r, sym e ∙ q ∙ z)) ∙ sym q ∙ e)

  module _ (z : k ≡ 0) where
    accepted : refusal_of im (length sheet) ≡ 0
    accepted = sym q ∙ z

    told : mark_refusal im (length sheet) key ≡ (when key_fits (fields_of im) key then 0 else 15)
    told = by_key im (length sheet) key accepted

    -- the sums, from nothing on
    from_none : summed (fields_of im) sheet (questions_of key) no_points
        ≡ marks.Sums (sum_of im sheet key verdict.Right) (sum_of im sheet key verdict.Wrong) (sum_of im sheet key verdict.Blank)
    from_none = sums_same (omega arith) (omega arith) (omega arith)

    -- by the table, as by the fields: a key that fits has its sums
    known_key : marked_all (with_fields (fields_of im) zeros) sheet key
        ≡ (when key_fits (fields_of im) key then summed (fields_of im) sheet (questions_of key) no_points else marks.Refused 15)
    unfolding marked_all key_fits
    known_key =
        by_test ((length key % 3) =? 0)
        (λ w. if_true _ _ w
        ∙ marked_known (fields_of im) sheet (questions_of key) [] (with_fields (fields_of im) zeros) no_points (knows_all im (length sheet) accepted)
        ∙ ap (λ (b : Bool). when b then summed (fields_of im) sheet (questions_of key) no_points else marks.Refused 15) (sym (and_true _ w)))
        (λ w. if_false _ _ w ∙ sym (if_false _ _ (and_false _ w)))

    known_marks : marked_all (with_fields (fields_of im) zeros) sheet key ≡ marked im sheet key
    unfolding marked
    known_marks =
        known_key
        ∙ by_test (key_fits (fields_of im) key)
        (λ e. if_true _ _ e ∙ from_none ∙ sym (if_eq _ 0 _ _ (told ∙ if_true 0 15 e)))
        (λ e. let n : mark_refusal im (length sheet) key ≡ 15 = told ∙ if_false 0 15 e in
        if_false _ _ e ∙ sym (if_ne _ 0 _ _ (λ (o : mark_refusal im (length sheet) key ≡ 0). omega (arith, sym n ∙ o)) ∙ ap marks.Refused n))

    module _ (count : ℕ) (places t u : List ℕ) (c : count ≡ length (places_listed im (length sheet))) (p : places ≡ fit 0 256 (places_listed im (length sheet)))
        (b : t ≡ zeros) (g : u ≡ with_fields (fields_read im (take count places)) t) where
      table_is : u ≡ with_fields (fields_of im) zeros
      table_is = g ∙ rw (b, list_read im (length sheet) accepted count places c p)

      pub table_open : open_in u ≤ 256
      table_open = rw table_is (few_open im (length sheet) accepted)

      pub answered : (r : Result Sums Refusal) → as_marked r ≡ marked_all u sheet key → Answers r
      answered r e = with_number r (e ∙ ap (λ (x : List ℕ). marked_all x sheet key) table_is ∙ known_marks)
