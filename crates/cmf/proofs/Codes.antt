-- Components: the reader's layout is that of the grammar's table of codes. Each row is laid out so by its own code, and the code of a component
-- that is laid out so leads to its row.
use Prim.Native.Nat.{ℕ, ◌+◌, ◌≤◌, ◌<◌}
use mathlib.Core.Path.{◌≡◌, refl, sym, ap, subst, ◌∙◌}
use mathlib.Core.Bool.{Bool, true, false, false≢true}
use mathlib.Core.List.{List, [], ◌∷◌}
use lib.Dec.{lit≤}
use native.Mathlib.Omega.{arith}
use borrow.Author.Tests.{ltb-false, leb-true, eqb-true, eqb-false, eq-eqb, ne_eqb, lt-ltb, le-leb}
use Rattle.laws.specs.Choice.{when◌then◌else◌, ◌and◌, ◌=?◌, ◌<?◌, ◌≤?◌}
use Rattle.laws.specs.Bytes.{byte_at}
use Rattle.laws.proofs.Cases.{if_ind, if_true, if_lt, if_le, if_ne, by_test, and_i, and_l, and_r}
use Rattle.laws.proofs.Tables.{passes}
use Rattle.field.specs.Formats.{format_of}
use Rattle.field.specs.Profiles.{profile_of, cell_of}
use Rattle.field.specs.Cells.{in_range, in_span, all_within, cells_of, within}
use Rattle.field.specs.Sheet.{size_of}
use Rattle.field.specs.Settings.{settings_fit, kind_fits}
use Rattle.field.specs.declared.kind.Kind.TheVariants.{Integer}
use Rattle.field.specs.declared.record.Field.{Field}
use Rattle.cmf.specs.Refusals.{refusal_number}
use Rattle.cmf.specs.Layouts.{Texts, Component, FixedLayout, code, GoodSettings, edit_bit, last_bit, field_with}
use Rattle.cmf.specs.Readers.{run_of, fixed_bytes, text_count, given, kind_at, default_place, sheet_place_at, field_by, component_at}
use Rattle.cmf.specs.declared.text.Run.{Run}
use Rattle.cmf.proofs.Agreement.{ComponentIs, ComponentReads}
use Rattle.cmf.proofs.Runs.{none_ends, text_texts, texts_text}
use Rattle.cmf.proofs.Parts.{Laid, laid_after, laid_inside, laid_read, read_laid}

-- 7.5.1 to 7.5.11: an integer's bytes are its default's and six more
pub integer_bytes : (c e : ℕ) → c ≤ 0x0a → fixed_bytes c e ≡ 6 + (profile_of (Integer (format_of c))).bytes
unfolding fixed_bytes profile_of format_of ◌and◌ when◌then◌else◌
integer_bytes c e h = eqb-true _ _ (passes (λ (n : ℕ). fixed_bytes n e =? 6 + (profile_of (Integer (format_of n))).bytes) 11 refl c (omega arith))

module _ (im : List ℕ) where
  -- the field of a code that is one
  abbrev pub fields_by : ℕ → ℕ → List Field
  fields_by at c = when (when c =? 0x15 then false else true) then field_by im at c ∷ [] else []

  -- the field of an integer's code
  abbrev pub integer_by : ℕ → ℕ → Field
  integer_by at c = field_with im at (Integer (format_of c)) (at + 6)

  pub integer_field : (at c : ℕ) → c ≤ 0x0a → field_by im at c ≡ integer_by at c
  unfolding kind_at default_place sheet_place_at when◌then◌else◌
  integer_field at c h =
      simp (le-leb c 0x0a h, lt-ltb c 0x15 (omega arith), ne_eqb c 0x0d (λ e. omega arith), ne_eqb c 0x13 (λ e. omega arith), ne_eqb c 0x14 (λ e. omega arith))

  -- ---- from the row to the layout

  -- a row without texts
  fixed_laid :
      {at end : ℕ} (c : ℕ) → c < 0x18 → text_count im at c ≡ 0 → FixedLayout im at (fixed_bytes c (edit_bit im at)) end →
      given im at c (edit_bit im at) (run_of true end 0) ≡ true → settings_fit (kind_at im at c) (field_by im at c).default ≡ true → Laid im at c end
  fixed_laid c k t w g s = record {
    longest = 0;
    known = k;
    fixed = omega (arith, w.ends, w.inside);
    texts = rw (t, w.ends) Texts.none;
    gives = g;
    settings = s;
  }

  -- what a row of the table reads as
  record Row (at c end : ℕ) (fs : List Field) : Type 0 where
    laid : Laid im at c end
    fields : fields_by at c ≡ fs

  -- an integer's row, for all eleven codes
  integer_row :
      {at end : ℕ} (c : ℕ) → c ≤ 0x0a → FixedLayout im at (6 + size_of (integer_by at c)) end → GoodSettings (integer_by at c) →
      Row at c end (integer_by at c ∷ [])
  unfolding text_count given
  integer_row {at} c h w g = record {
    laid =
        fixed_laid c (omega arith) (if_lt c 0x13 _ _ (omega arith)) (rw (integer_bytes c (edit_bit im at) h) w) (if_le c 0x0a _ _ h)
        (subst (λ (f : Field). settings_fit f.kind f.default ≡ true) (sym (integer_field at c h)) g.good);
    fields = if_true _ _ (if_ne c 0x15 _ _ (λ e. omega arith)) ∙ ap (λ (f : Field). f ∷ []) (integer_field at c h);
  }

  -- every row is laid out by its code and has its field
  row : {at end : ℕ} {fs : List Field} → Component im at end fs → Row at (code im at) end fs
  unfolding fixed_bytes text_count given kind_at default_place sheet_place_at profile_of settings_fit kind_fits in_range in_span all_within cells_of within cell_of ◌and◌ when◌then◌else◌
  row (Component.integer k w g) = integer_row _ k w g
  row (Component.counter k w g) = rw k (record { laid = fixed_laid 0x0d (lit≤ tt) refl w refl g.good; fields = refl })
  row (Component.time_long k w g) = rw k (record { laid = fixed_laid 0x0f (lit≤ tt) refl w refl g.good; fields = refl })
  row (Component.time_short k w g) = rw k (record { laid = fixed_laid 0x10 (lit≤ tt) refl w refl g.good; fields = refl })
  row (Component.date_long k w g) = rw k (record { laid = fixed_laid 0x11 (lit≤ tt) refl w refl g.good; fields = refl })
  row (Component.date_short k w g) = rw k (record { laid = fixed_laid 0x12 (lit≤ tt) refl w refl g.good; fields = refl })
  row (Component.switch k w g) = rw k (record {
    laid = record {
      longest = w.longest;
      known = lit≤ tt;
      fixed = w.inside;
      texts = w.texts;
      gives = eq-eqb _ _ (sym w.counted);
      settings = g.good;
    };
    fields = refl;
  })
  row {at} (Component.option k w g) = rw k (record {
    laid = record {
      longest = byte_at im (at + 8);
      known = lit≤ tt;
      fixed = w.inside;
      texts = w.items;
      gives = and_i (eq-eqb _ _ (sym w.counted)) (eq-eqb (byte_at im (at + 8)) _ refl);
      settings = g.good;
    };
    fields = refl;
  })
  row {at} (Component.constant k b t) = rw k (record {
    laid = record {
      longest = byte_at im (at + 1);
      known = lit≤ tt;
      fixed = rw b (omega (arith, t.ends, t.inside));
      texts = rw b (text_texts t);
      gives = eq-eqb _ 0 b;
      settings = refl;
    };
    fields = refl;
  })
  row (Component.trigger k w) = rw k (record { laid = fixed_laid 0x17 (lit≤ tt) refl w refl refl; fields = refl })

  -- ---- from the layout to the row

  -- a component without texts has its fixed bytes alone
  laid_fixed : {at end : ℕ} (c : ℕ) → text_count im at c ≡ 0 → Laid im at c end → FixedLayout im at (fixed_bytes c (edit_bit im at)) end
  laid_fixed c t a = record { ends = none_ends (rw t at a.texts); inside = laid_inside im a }

  -- what is laid out by an integer's code is an integer
  integer : {at end : ℕ} (c : ℕ) → c ≡ code im at → c ≤ 0x0a → Laid im at c end → Component im at end (fields_by at c)
  unfolding text_count
  integer {at} {end} c k h a =
      let w : FixedLayout im at (6 + size_of (integer_by at c)) end =
      rw (integer_bytes c (edit_bit im at) h) at (laid_fixed c (if_lt c 0x13 _ _ (omega arith)) a) in
      let g : GoodSettings (integer_by at c) =
      record { good = subst (λ (f : Field). settings_fit f.kind f.default ≡ true) (integer_field at c h) a.settings } in
      rw (if_true _ _ (if_ne c 0x15 _ _ (λ e. omega arith)), integer_field at c h, k) (Component.integer (rw k at h) (rw k at w) (rw k at g))

  module _ (at end : ℕ) where
    -- what is laid out by a code is the code's row
    abbrev Makes : ℕ → Type 0
    Makes c = Laid im at c end → Component im at end (fields_by at c)

    -- a row that the code of a component leads to
    at_code : (c : ℕ) → (code im at ≡ c → Makes c) → (code im at =? c) ≡ true → Makes (code im at)
    at_code c f q = let k : code im at ≡ c = eqb-true _ c q in rw k (f k)

    -- the code leads to the row, and a code that is not given to none
    made : (t : Run) → given im at (code im at) (edit_bit im at) t ≡ true → Makes (code im at)
    unfolding fixed_bytes text_count given kind_at default_place sheet_place_at profile_of when◌then◌else◌
    made t =
        if_ind Sound (code im at ≤? 0x0a) (λ q e. integer (code im at) refl (leb-true _ _ q))
        (λ _. if_ind Sound (code im at =? 0x0d) (λ q e. at_code 0x0d counter q)
        (λ _. if_ind Sound (code im at <? 0x0f) (λ q e. absurd (false≢true e))
        (λ l. if_ind Sound (code im at ≤? 0x12) (λ u e. times (ltb-false (code im at) 0x0f l) (leb-true (code im at) 0x12 u))
        (λ _. if_ind Sound (code im at =? 0x13) (λ q e. at_code 0x13 switch q)
        (λ _. if_ind Sound (code im at =? 0x14) (λ q e. at_code 0x14 option q)
        (λ _. if_ind Sound (code im at =? 0x15) (λ q e. at_code 0x15 constant q) (λ _. at_code 0x17 trigger)))))))
      where
        Sound : Bool → Type 0
        Sound b = b ≡ true → Makes (code im at)

        counter : code im at ≡ 0x0d → Makes 0x0d
        counter k a = Component.counter k (laid_fixed 0x0d refl a) (record { good = a.settings })

        time_long : code im at ≡ 0x0f → Makes 0x0f
        time_long k a = Component.time_long k (laid_fixed 0x0f refl a) (record { good = a.settings })

        time_short : code im at ≡ 0x10 → Makes 0x10
        time_short k a = Component.time_short k (laid_fixed 0x10 refl a) (record { good = a.settings })

        date_long : code im at ≡ 0x11 → Makes 0x11
        date_long k a = Component.date_long k (laid_fixed 0x11 refl a) (record { good = a.settings })

        date_short : code im at ≡ 0x12 → Makes 0x12
        date_short k a = Component.date_short k (laid_fixed 0x12 refl a) (record { good = a.settings })

        switch : code im at ≡ 0x13 → Makes 0x13
        switch k a =
            Component.switch k
            (record {
              inside = a.fixed;
              longest = a.longest;
              texts = a.texts;
              counted = sym (eqb-true (at + byte_at im (at + 6)) end a.gives);
            })
            (record { good = a.settings })

        option : code im at ≡ 0x14 → Makes 0x14
        option k a =
            Component.option k
            (record {
              inside = a.fixed;
              items = rw (eqb-true (byte_at im (at + 8)) a.longest (and_r _ _ a.gives)) a.texts;
              counted = sym (eqb-true (at + byte_at im (at + 6)) end (and_l _ _ a.gives));
            })
            (record { good = a.settings })

        constant : code im at ≡ 0x15 → Makes 0x15
        constant k a =
            let b : edit_bit im at ≡ 0 = eqb-true _ 0 a.gives in
            Component.constant k b (texts_text (rw b at a.texts))

        trigger : code im at ≡ 0x17 → Makes 0x17
        trigger k a = Component.trigger k (laid_fixed 0x17 refl a)

        times : 0x0f ≤ code im at → code im at ≤ 0x12 → Makes (code im at)
        times l u =
            by_test (code im at =? 0x0f) (at_code 0x0f time_long)
            (λ x. by_test (code im at =? 0x10) (at_code 0x10 time_short)
            (λ y. by_test (code im at =? 0x11) (at_code 0x11 date_long)
            (λ z. at_code 0x12 date_short
            (eq-eqb (code im at) 0x12 (omega (arith, eqb-false (code im at) 0x0f x, eqb-false (code im at) 0x10 y, eqb-false (code im at) 0x11 z))))))

  -- ---- reader and grammar

  -- what a component of the grammar reads as
  pub component_is : {at end : ℕ} {fs : List Field} → Component im at end fs → ComponentIs im at end fs
  component_is c =
      let r = row c in
      let e = laid_read im r.laid in
      record { refusal = rw e (ap refusal_number (if_true _ _ r.laid.settings)); ends = rw e; fields = rw e r.fields }

  -- what is known of a component that reads with code 0
  pub component_reads : (at : ℕ) → refusal_number (component_at im at).refusal ≡ 0 → ComponentReads im at
  component_reads at c =
      let f = read_laid im at c in
      let a = f.laid in
      let e = laid_read im a in
      record {
        component = rw e (made at _ _ a.gives a);
        last = rw e (λ t. eqb-true _ 1 t);
        more = rw e (λ t. omega (arith, eqb-false (last_bit im at) 1 t));
        editable = rw e;
        next = rw e;
        after = rw e (laid_after im a);
        inside = rw e (laid_inside im a);
      }
