-- The fields on the way through an image, one step at a time, over variables whose premises are what the callees ensure: to take those of
-- two lists of places in turn is to take those of the joined list. At the end a list that had room for none leaves the defaults alone, and
-- an empty one is the fields' places.
use Prim.Native.Nat.{ℕ, suc, ◌+◌, ◌-◌, ◌≤◌, ◌<◌, min}
use mathlib.Core.Path.{◌≡◌, refl, sym, ap, ◌∙◌}
use mathlib.Core.Bool.{Bool, true, false}
use mathlib.Core.List.{List, [], ◌∷◌, ◌++◌, map}
use native.Mathlib.Nat.{min-eq_left, min-eq_right}
use native.Mathlib.Omega.{arith}
use lib.ListN.{length, set, length-set, length-map}
use borrow.Author.Tests.{ltb-true, ltb-false}
use Rattle.laws.specs.Choice.{when◌then◌else◌, ◌=?◌, ◌<?◌}
use Rattle.laws.specs.Overwrite.{over, fit}
use Rattle.laws.proofs.Cases.{by_test, if_eq, if_lt, if_ge}
use Rattle.laws.proofs.Overwriting.{over_nil, over_out, over_cons, over_blank, length_fit}
use Rattle.field.specs.Sheet.{default_written}
use Rattle.field.specs.declared.record.Field.{Field}
use Rattle.cmf.specs.Readers.{title_at, head_at, component_at}
use Rattle.cmf.specs.Places.{lines_from, lines_of, components_from, components_of, rest_of_line, held_by, line_reach, lines_reach, table_reach, fields_among, fields_of, field_places}
use Rattle.cmf.specs.declared.title.Title.{Title}
use Rattle.cmf.specs.declared.head.Head.{Head}
use Rattle.cmf.specs.declared.component.Component.{Component}
use Rattle.acceptance.specs.Check.{refusal_of}
use Rattle.acceptance.proofs.Acceptance.{accepted_exactly_when_well_formed, fields_are}
use Rattle.acceptance.proofs.Places.{among_join}
use Rattle.handset.specs.Fields.{places_listed}
use Rattle.handset.specs.Taking.{Gathered, gathered, take_one, take_all}
use Rattle.handset.specs.Open.{defaults_written}

gathered_join : (fs gs : List Field) (s : Gathered) → take_all (fs ++ gs) s ≡ take_all gs (take_all fs s)
unfolding take_all
gathered_join [] gs s = refl
gathered_join (f ∷ fs) gs s = gathered_join fs gs _

-- a field, with room for its place and without
pub one_taken : (f : Field) (s ps : List ℕ) (k : ℕ) {t : List ℕ} → k < length ps → t ≡ default_written f s → gathered t (k + 1) (set ps k f.image.0) ≡ take_one f (gathered s k ps)
unfolding take_one
one_taken f s ps k h e = rw (if_lt k (length ps) (k + 1) k h, if_lt k (length ps) (set ps k f.image.0) ps h, e)

pub one_dropped : (f : Field) (s ps : List ℕ) (k : ℕ) {t : List ℕ} → length ps ≤ k → t ≡ default_written f s → gathered t k ps ≡ take_one f (gathered s k ps)
unfolding take_one
one_dropped f s ps k h e = rw (if_ge k (length ps) (k + 1) k h, if_ge k (length ps) (set ps k f.image.0) ps h, e)

-- a component, if it is a field
pub held_taken : (c : Component) (s : Gathered) {t : Gathered} → c.fielded ≡ true → t ≡ take_one c.field s → t ≡ take_all (held_by c) s
unfolding take_all when◌then◌else◌
held_taken c s h e = e ∙ rw h

pub none_taken : (c : Component) {s : Gathered} → c.fielded ≡ false → s ≡ take_all (held_by c) s
unfolding take_all when◌then◌else◌
none_taken c h = rw h

module _ (im : List ℕ) where
  -- with the fields among these places
  abbrev pub gathered_at : List ℕ → Gathered → Gathered
  gathered_at ps s = take_all (fields_among im ps) s

  at_join : (ps qs : List ℕ) (s : Gathered) → gathered_at (ps ++ qs) s ≡ gathered_at qs (gathered_at ps s)
  at_join ps qs s = ap (λ (fs : List Field). take_all fs s) (among_join im ps qs) ∙ gathered_join (fields_among im ps) (fields_among im qs) s

  at_if : (t : Bool) (ps : List ℕ) (s : Gathered) → gathered_at (when t then ps else []) s ≡ (when t then gathered_at ps s else s)
  unfolding when◌then◌else◌ fields_among take_all
  at_if true ps s = refl
  at_if false ps s = refl

  -- ---- components

  module _ (left p : ℕ) (s t : Gathered) (c : Component) (h : 0 < left) (e : c ≡ component_at im p) (f : t ≡ take_all (held_by c) s) where
    components_one : gathered_at (components_from im left p) s ≡ gathered_at (when c.last then [] else components_from im (left - 1) c.next.0) t
    unfolding components_from fields_among
    components_one =
        let z : left ≡ suc (left - 1) = omega arith in
        ap (λ (n : ℕ). gathered_at (components_from im n p) s) z
        ∙ ap (λ (x : Component). take_all (held_by x ++ fields_among im (when x.last then [] else components_from im (left - 1) x.next.0)) s) (sym e)
        ∙ gathered_join (held_by c) _ s ∙ ap (gathered_at (when c.last then [] else components_from im (left - 1) c.next.0)) (sym f)

    pub components_last : c.last ≡ true → gathered_at (components_from im left p) s ≡ t
    unfolding fields_among take_all when◌then◌else◌
    components_last l = components_one ∙ rw l

    pub components_next : c.last ≡ false → gathered_at (components_from im left p) s ≡ gathered_at (components_from im (left - 1) c.next.0) t
    unfolding when◌then◌else◌
    components_next l = components_one ∙ rw l

  pub components_done : (left p : ℕ) (s : Gathered) → left ≤ 0 → gathered_at (components_from im left p) s ≡ s
  unfolding components_from fields_among take_all
  components_done left p s h = let e : left ≡ 0 = omega arith in rw e

  -- ---- lines and tables

  module _ (below : ℕ) where
    -- those of the table's lines from the nth on, at p
    abbrev pub rest : ℕ → ℕ → Gathered → Gathered
    rest n p s = gathered_at (lines_reach im (table_reach im below) (lines_from im (100 - n) p)) s

    module _ (n p : ℕ) (s u t : Gathered) (h : Head) (few : n < 100) (e : h ≡ head_at im p) (f : u ≡ gathered_at (rest_of_line im h.component.0) s)
        (g : t ≡ when h.submenu then gathered_at (table_reach im below h.table.0) u else u) where
      line_one : gathered_at (line_reach im (table_reach im below) p) s ≡ t
      unfolding line_reach components_of
      line_one =
          ap (λ (x : Head). gathered_at (rest_of_line im x.component.0 ++ (when x.submenu then table_reach im below x.table.0 else [])) s) (sym e)
          ∙ at_join (rest_of_line im h.component.0) _ s ∙ at_if h.submenu (table_reach im below h.table.0) _
          ∙ ap (λ (x : Gathered). when h.submenu then gathered_at (table_reach im below h.table.0) x else x) (sym f) ∙ sym g

      lines_one : rest n p s ≡ gathered_at (lines_reach im (table_reach im below) (when h.last then [] else lines_from im (100 - (n + 1)) h.next.0)) t
      unfolding lines_from lines_reach
      lines_one =
          let z : 100 - n ≡ suc (100 - (n + 1)) = omega arith in
          ap (λ (k : ℕ). gathered_at (lines_reach im (table_reach im below) (lines_from im k p)) s) z
          ∙ ap
          (λ (x : Head). gathered_at (line_reach im (table_reach im below) p
          ++ lines_reach im (table_reach im below) (when x.last then [] else lines_from im (100 - (n + 1)) x.next.0)) s) (sym e)
          ∙ at_join (line_reach im (table_reach im below) p) _ s
          ∙ ap (gathered_at (lines_reach im (table_reach im below) (when h.last then [] else lines_from im (100 - (n + 1)) h.next.0))) line_one

      pub lines_last : h.last ≡ true → rest n p s ≡ t
      unfolding lines_reach fields_among take_all when◌then◌else◌
      lines_last l = lines_one ∙ rw l

      pub lines_next : h.last ≡ false → rest n p s ≡ rest (n + 1) h.next.0 t
      unfolding when◌then◌else◌
      lines_next l = lines_one ∙ rw l

    pub lines_done : (n p : ℕ) (s : Gathered) → 100 ≤ n → rest n p s ≡ s
    unfolding lines_from lines_reach fields_among take_all
    lines_done n p s h = let e : 100 - n ≡ 0 = omega arith in rw e

  -- below the deepest table there is nothing
  pub table_none : (left t : ℕ) (s : Gathered) → left ≡ 0 → gathered_at (table_reach im left t) s ≡ s
  unfolding table_reach fields_among take_all
  table_none left t s e = rw e

  pub table_lines : (left at : ℕ) (t : Title) (s : Gathered) → (left ≡ 0 → ⊥) → t ≡ title_at im at → gathered_at (table_reach im left at) s ≡ rest (left - 1) 0 t.line.0 s
  unfolding table_reach lines_of
  table_lines left at t s z e =
      let k : left ≡ suc (left - 1) = omega arith in
      ap (λ (j : ℕ). gathered_at (table_reach im j at) s) k ∙ rw (← e)

-- ---- the whole

-- the sheet has the defaults, whatever the list
sheet_taken : (fs : List Field) (t : Gathered) → (take_all fs t).sheet ≡ defaults_written fs t.sheet
unfolding take_all take_one defaults_written
sheet_taken [] t = refl
sheet_taken (f ∷ fs) t = sheet_taken fs (take_one f t)

pub defaults_taken : (fs : List Field) (s ps : List ℕ) (k : ℕ) {t qs : List ℕ} {r : ℕ} → gathered t r qs ≡ take_all fs (gathered s k ps) → t ≡ defaults_written fs s
defaults_taken fs s ps k e = ap (λ (x : Gathered). x.sheet) e ∙ sheet_taken fs (gathered s k ps)

-- the places of fields
abbrev places_of : List Field → List ℕ
places_of fs = map (λ (f : Field). f.image.0) fs

-- the list has the places of as many as there is room for
places_taken : (fs : List Field) (s ps : List ℕ) (k : ℕ) → (take_all fs (gathered s k ps)).places ≡ over ps k (places_of fs)
unfolding take_all
places_taken [] s ps k = sym (over_nil ps k)
places_taken (f ∷ fs) s ps k =
    by_test (k <? length ps)
    (λ e. let h = ltb-true k (length ps) e in
    let z : k + 1 ≡ suc k = omega arith in
    ap (λ (x : Gathered). (take_all fs x).places) (sym (one_taken f s ps k h refl))
    ∙ places_taken fs (default_written f s) (set ps k f.image.0) (k + 1) ∙ rw z (over_cons ps k f.image.0 (places_of fs) h))
    (λ e. let h = ltb-false k (length ps) e in
    ap (λ (x : Gathered). (take_all fs x).places) (sym (one_dropped f s ps k h refl))
    ∙ places_taken fs (default_written f s) ps k ∙ over_out ps k (places_of fs) h ∙ sym (over_out ps k (places_of (f ∷ fs)) h))

count_taken : (fs : List Field) (s ps : List ℕ) (k : ℕ) → k ≤ length ps → (take_all fs (gathered s k ps)).count ≡ min (k + length (places_of fs)) (length ps)
unfolding take_all
count_taken [] s ps k h = omega (arith, min-eq_left {n = k + 0} {m = length ps} (omega arith))
count_taken (f ∷ fs) s ps k h =
    by_test (k <? length ps)
    (λ e. let l = ltb-true k (length ps) e in
    let z : k + 1 + length (places_of fs) ≡ k + suc (length (places_of fs)) = omega arith in
    ap (λ (x : Gathered). (take_all fs x).count) (sym (one_taken f s ps k l refl))
    ∙ count_taken fs (default_written f s) (set ps k f.image.0) (k + 1) (omega (arith, length-set ps k f.image.0))
    ∙ rw (length-set ps k f.image.0, z))
    (λ e. let l = ltb-false k (length ps) e in
    ap (λ (x : Gathered). (take_all fs x).count) (sym (one_dropped f s ps k l refl))
    ∙ count_taken fs (default_written f s) ps k h
    ∙ min-eq_right {n = length ps} {m = k + length (places_of fs)} (omega arith)
    ∙ sym (min-eq_right {n = length ps} {m = k + suc (length (places_of fs))} (omega arith)))

-- so a list of zeros is the fields' places
list_taken : (fs : List Field) (s ps : List ℕ) (n : ℕ) {t qs : List ℕ} {r : ℕ} → ps ≡ fit 0 n [] → gathered t r qs ≡ take_all fs (gathered s 0 ps) → length (places_of fs) ≤ n
    → (r ≡ length (places_of fs)) × (qs ≡ fit 0 n (places_of fs))
list_taken fs s ps n b e few =
    let l : length ps ≡ n = ap length b ∙ length_fit 0 n [] in
    let z : 0 + length (places_of fs) ≡ length (places_of fs) = omega arith in (
      ap (λ (x : Gathered). x.count) e ∙ count_taken fs s ps 0 (omega arith) ∙ rw (l, z) (min-eq_left {n = length (places_of fs)} {m = n} few),
      ap (λ (x : Gathered). x.places) e ∙ places_taken fs s ps 0 ∙ rw b (over_blank 0 n (places_of fs)),
    )

-- ---- the list of an image that is refused, and of one that is not

module _ (im : List ℕ) (extent k : ℕ) (q : k ≡ refusal_of im extent) (ps : List ℕ) (b : ps ≡ fit 0 256 []) where
  pub all_listed : (s : List ℕ) {t qs : List ℕ} {r : ℕ} → (k ≡ 0) → gathered t r qs ≡ take_all (fields_of im) (gathered s 0 ps)
      → (0 ≡ refusal_of im extent) × ((r ≡ length (places_listed im extent)) × (qs ≡ fit 0 256 (places_listed im extent)))
  unfolding places_listed
  all_listed s h e =
      let z : refusal_of im extent ≡ 0 = sym q ∙ h in
      let w = (accepted_exactly_when_well_formed im extent).0 z in
      let few : length (field_places im) ≤ 256 = omega (arith, rw (fields_are im extent w) at w.few_fields, length-map (fields_of im) (λ (f : Field). f.image.0)) in
      let l = list_taken (fields_of im) s ps 256 b e few in
      let i : (when refusal_of im extent =? 0 then field_places im else []) ≡ field_places im = if_eq _ 0 _ _ z in
      (sym z, (l.0 ∙ ap length (sym i), l.1 ∙ ap (fit 0 256) (sym i)))
