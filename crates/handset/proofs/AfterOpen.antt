-- After Open each field's bytes are its default, whatever the sheet held, other bytes are as they were, and the session fits. A default
-- that was written stays: a later one is that of a field apart, or of the same field again.
use Prim.Native.Nat.{ℕ, ◌+◌, ◌-◌, ◌≤◌, ◌<◌}
use mathlib.Core.Path.{◌≡◌, refl, ◌∙◌}
use mathlib.Core.Bool.{true}
use mathlib.Core.Logic.{◌⊎◌, inl, inr}
use mathlib.Core.List.Memᴰ
use mathlib.Core.List.{List, [], ◌∷◌, Memᴰ}
use native.Mathlib.Omega.{arith}
use lib.ListN.{length}
use borrow.Author.Tests.{leb-true, lt-ltb}
use Rattle.laws.specs.Choice.{◌and◌, ◌≤?◌}
use Rattle.laws.specs.Parts.{part_at}
use Rattle.laws.proofs.Cases.{and_i, and_l, and_r}
use Rattle.laws.proofs.Frame.{length_put, put_beside}
use Rattle.field.specs.Values.{bytes_of}
use Rattle.field.specs.Sheet.{size_of, own_bytes, default_written}
use Rattle.field.specs.declared.record.Field.{Field}
use Rattle.field.proofs.Apart.{LieApart, default_beside, default_read}
use Rattle.cmf.specs.Grammar.{WellFormed}
use Rattle.cmf.specs.Places.{line_count, fields_of}
use Rattle.acceptance.proofs.Acceptance.{fields_are}
use Rattle.acceptance.proofs.Fields.{every_in, all_in_image, others_apart, field_inside}
use Rattle.acceptance.proofs.Reach.{some_line}
use Rattle.session.specs.Session.{opened}
use Rattle.session.specs.Fits.{shape_fits, level_fits, levels_fit, tables_fit, mode_fits, session_fits}
use Rattle.handset.specs.Open.{defaults_written}

-- ---- defaults, one after another

module _ (im : List ℕ) where
  length_default : (f : Field) (s : List ℕ) → length (default_written f s) ≡ length s
  unfolding default_written
  length_default f s = length_put f.sheet.0 (bytes_of f.default) s

  module _ (n : ℕ) (w : WellFormed im n) where
    sized : (f : Field) → Memᴰ f w.fields → length (bytes_of f.default) ≡ size_of f
    sized f m = (every_in (all_in_image im n w) f m).sized

    -- a default that was written stays when another field's is written
    stays : (f g : Field) (s : List ℕ) → Memᴰ f w.fields → Memᴰ g w.fields → length s ≡ n
        → own_bytes f s ≡ bytes_of f.default → own_bytes f (default_written g s) ≡ bytes_of f.default
    stays f g s m k l h = go (others_apart im n w g f k m)
      where
        go : (g ≡ f) ⊎ LieApart g f → own_bytes f (default_written g s) ≡ bytes_of f.default
        go (inl e) = rw e (default_read f s (sized f m) (rw l (field_inside im n w f m)))
        go (inr a) = default_beside g f s (sized g k) a ∙ h

    abbrev Within : List Field → Type 0
    Within gs = (g : Field) → Memᴰ g gs → Memᴰ g w.fields

    all_stay : (f : Field) (gs : List Field) (s : List ℕ) → Memᴰ f w.fields → Within gs → length s ≡ n
        → own_bytes f s ≡ bytes_of f.default → own_bytes f (defaults_written gs s) ≡ bytes_of f.default
    unfolding defaults_written
    all_stay f [] s m i l h = h
    all_stay f (g ∷ gs) s m i l h =
        all_stay f gs (default_written g s) m (λ x k. i x (Memᴰ.tail k)) (length_default g s ∙ l) (stays f g s m (i g (Memᴰ.head refl)) l h)

    all_written : (f : Field) (gs : List Field) (s : List ℕ) → Memᴰ f gs → Within gs → length s ≡ n
        → own_bytes f (defaults_written gs s) ≡ bytes_of f.default
    unfolding defaults_written
    all_written f [] s m i l = absurd (Memᴰ.not-nil m)
    all_written f (g ∷ gs) s m i l = go (Memᴰ.cases_cons m) (λ k. all_written f gs (default_written g s) k (λ x j. i x (Memᴰ.tail j)) (length_default g s ∙ l))
      where
        at_head : f ≡ g → own_bytes f (defaults_written gs (default_written g s)) ≡ bytes_of f.default
        at_head e =
            all_stay f gs (default_written g s) (i f m) (λ x j. i x (Memᴰ.tail j)) (length_default g s ∙ l)
            (rw (← e) (default_read f s (sized f (i f m)) (rw l (field_inside im n w f (i f m)))))

        go : (f ≡ g) ⊎ Memᴰ f gs → (Memᴰ f gs → own_bytes f (defaults_written gs (default_written g s)) ≡ bytes_of f.default)
            → own_bytes f (defaults_written gs (default_written g s)) ≡ bytes_of f.default
        go (inl e) later = at_head e
        go (inr k) later = later k

    -- a part of the sheet that lies apart from the fields stays
    one_beside : (lo k : ℕ) (g : Field) (s : List ℕ) → Memᴰ g w.fields → (lo + k ≤ g.sheet.0) ⊎ (g.sheet.0 + size_of g ≤ lo)
        → part_at lo k (default_written g s) ≡ part_at lo k s
    unfolding default_written
    one_beside lo k g s m (inl h) = put_beside g.sheet.0 (bytes_of g.default) s lo k (inl h)
    one_beside lo k g s m (inr h) = put_beside g.sheet.0 (bytes_of g.default) s lo k (inr (rw (sized g m) h))

    all_beside : (lo k : ℕ) (gs : List Field) (s : List ℕ) → Within gs → ((g : Field) → Memᴰ g gs → (lo + k ≤ g.sheet.0) ⊎ (g.sheet.0 + size_of g ≤ lo))
        → part_at lo k (defaults_written gs s) ≡ part_at lo k s
    unfolding defaults_written
    all_beside lo k [] s i b = refl
    all_beside lo k (g ∷ gs) s i b =
        all_beside lo k gs (default_written g s) (λ x j. i x (Memᴰ.tail j)) (λ x j. b x (Memᴰ.tail j))
        ∙ one_beside lo k g s (i g (Memᴰ.head refl)) (b g (Memᴰ.head refl))

-- a part of the sheet that lies apart from every field is as it was
pub others_stay : (im s : List ℕ) (w : WellFormed im (length s)) (lo k : ℕ)
    → ((g : Field) → Memᴰ g w.fields → (lo + k ≤ g.sheet.0) ⊎ (g.sheet.0 + size_of g ≤ lo))
    → part_at lo k (defaults_written (fields_of im) s) ≡ part_at lo k s
others_stay im s w lo k b =
    rw (← fields_are im (length s) w) (all_beside im (length s) w lo k w.fields s (λ g j. j) b)

-- after a successful Open each field's bytes are its default, whatever the sheet held
pub defaults_there : (im s : List ℕ) (w : WellFormed im (length s)) (f : Field) → Memᴰ f w.fields
    → own_bytes f (defaults_written (fields_of im) s) ≡ bytes_of f.default
defaults_there im s w f m =
    rw (← fields_are im (length s) w) (all_written im (length s) w f w.fields s m (λ g k. k) refl)

rows_of : (columns lines : ℕ) → shape_fits columns lines ≡ true → (2 ≤? lines) and (lines ≤? 4) ≡ true
unfolding shape_fits
rows_of columns lines h = and_r _ _ h

-- Open's session fits
pub opened_fits : (im : List ℕ) (columns lines : ℕ) → shape_fits columns lines ≡ true → session_fits im (opened columns lines) ≡ true
unfolding session_fits tables_fit levels_fit level_fits mode_fits opened
opened_fits im columns lines h =
    let rows : 2 ≤ lines = leb-true 2 lines (and_l _ _ (rows_of columns lines h)) in
    let some : 0 < line_count im 10 = some_line im 10 in
    and_i h (and_i (and_i refl (and_i refl (and_i (lt-ltb 0 _ some) (and_i refl (lt-ltb 0 (0 + (lines - 1)) (omega arith)))))) refl)
