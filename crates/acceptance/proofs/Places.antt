-- The fields of a well-formed image are those among the components that a walk reaches: the places of the lists are those of the
-- derivation, and what is read at each is its field.
use Prim.Native.Nat.{ℕ, zero, suc, ◌+◌, ◌<◌}
use mathlib.Core.Path.{◌≡◌, refl, sym, ap, ◌∙◌}
use mathlib.Core.List.{List, [], ◌∷◌, ◌++◌, append_assoc, append-nil}
use native.Mathlib.Omega.{arith}
use lib.ListN.{length}
use Rattle.laws.proofs.Cases.{if_true, if_false}
use Rattle.field.specs.declared.record.Field.{Field}
use Rattle.cmf.specs.Limits.{most_lines_of_table, deepest_table, prolog_bytes}
use Rattle.cmf.specs.Readers.{even_from, head_at, component_at}
use Rattle.cmf.specs.Places.{lines_from, lines_of, components_from, components_of, held_by, line_reach, lines_reach, table_reach, component_places, fields_among, fields_of}
use Rattle.cmf.specs.Layouts.{Components}
use Rattle.cmf.specs.Grammar.{Head, Line, Lines, Table, WellFormed, next_line}
use Rattle.cmf.proofs.Agreement.{Agree}
use Rattle.acceptance.proofs.Parts.{places_last, places_more, last_true, last_false, no_turns, turn}
use Rattle.acceptance.proofs.Line.{head_reads, last_marked, more_marked, submenu_marked, plain_marked}
use Rattle.acceptance.proofs.Tables.{lines_last, lines_more, line_reads, first_line_lem}

-- the fields among the places of two lists, one after the other
pub among_join : (im ps qs : List ℕ) → fields_among im (ps ++ qs) ≡ fields_among im ps ++ fields_among im qs
unfolding fields_among
among_join im [] qs = refl
among_join im (p ∷ ps) qs = rw (among_join im ps qs, append_assoc (held_by (component_at im p)) (fields_among im ps) (fields_among im qs))

module _ (im : List ℕ) (A : Agree im) where
  -- ---- components

  one_held : (p : ℕ) → fields_among im (p ∷ []) ≡ held_by (component_at im p)
  unfolding fields_among
  one_held p = append-nil (held_by (component_at im p))

  more_held : (p : ℕ) (ps : List ℕ) → fields_among im (p ∷ ps) ≡ held_by (component_at im p) ++ fields_among im ps
  unfolding fields_among
  more_held p ps = refl

  components_are : {at end : ℕ} {fs : List Field} → Components im at end fs → (k c : ℕ) → c ≡ even_from at → length im + 1 < c + k →
      fields_among im (components_from im k c) ≡ fs
  components_are (Components.last p a y l) zero c e h = no_turns im A a y c e h
  components_are (Components.last p a y l) (suc k) c e h =
      ap (fields_among im) (rw (turn im A a y k c e h).here (places_last im k p (last_true im A y l))) ∙ one_held p ∙ (A.component_is y).fields
  components_are (Components.more p mid a y l s) zero c e h = no_turns im A a y c e h
  components_are (Components.more p mid a y l s) (suc k) c e h =
      let n = turn im A a y k c e h in
      let q : components_from im (suc k) c ≡ p ∷ components_from im k (component_at im p).next.0 = rw n.here (places_more im k p (last_false im A y l)) in
      ap (fields_among im) q ∙ more_held p _ ∙ rw ((A.component_is y).fields, components_are s k (component_at im p).next.0 n.next n.enough)

  -- ---- lines

  line_parts : {n before p mid end : ℕ} {fs : List Field} → Head im n before p mid → Components im mid end fs → fields_among im (components_of im p) ≡ fs
  unfolding components_of
  line_parts {p = p} h cs =
      let i = A.head_is h in
      let r = A.head_reads p i.refusal in
      components_are cs (length im + 1) (head_at im p).component.0 (omega (arith, r.component, i.ends)) (omega (arith, r.component, r.after, i.ends))

  module _ (submenu : ℕ → List ℕ) (Sub : ℕ → List Field → ℕ → Type 0) (below : (t : ℕ) (fs : List Field) (k : ℕ) → Sub t fs k → fields_among im (submenu t) ≡ fs) where
    line_are : {n before p end k : ℕ} {fs : List Field} → Line im Sub n before p end fs k → fields_among im (line_reach im submenu p) ≡ fs
    unfolding line_reach fields_among
    line_are {p = p} (Line.plain mid h cs b) =
        among_join im (components_of im p) _
        ∙ rw (line_parts h cs, if_false (submenu (head_at im p).table.0) [] (plain_marked im A (head_reads im A h) b)) (append-nil _)
    line_are {p = p} (Line.submenu mid h cs b s) =
        let r = head_reads im A h in
        among_join im (components_of im p) _
        ∙ rw (line_parts h cs, if_true (submenu (head_at im p).table.0) [] (submenu_marked im A r b), r.table, below _ _ _ s)

    last_line : (p : ℕ) → fields_among im (lines_reach im submenu (p ∷ [])) ≡ fields_among im (line_reach im submenu p)
    unfolding lines_reach
    last_line p = ap (fields_among im) (append-nil (line_reach im submenu p))

    more_lines : (p : ℕ) (ps : List ℕ) → fields_among im (lines_reach im submenu (p ∷ ps))
        ≡ fields_among im (line_reach im submenu p) ++ fields_among im (lines_reach im submenu ps)
    unfolding lines_reach
    more_lines p ps = among_join im (line_reach im submenu p) (lines_reach im submenu ps)

    lines_are : {n before p k : ℕ} {fs : List Field} → Lines im Sub n before p fs k → (j : ℕ) → n + j ≡ most_lines_of_table + 1 →
        fields_among im (lines_reach im submenu (lines_from im j p)) ≡ fs
    lines_are (Lines.last end few x b) zero e = absurd (omega arith)
    lines_are {p = p} (Lines.last end few x b) (suc j) e =
        ap (λ (ps : List ℕ). fields_among im (lines_reach im submenu ps)) (lines_last im j p (last_marked im A (line_reads im A x) b)) ∙ last_line p ∙ line_are x
    lines_are (Lines.more end few x b a r) zero e = absurd (omega arith)
    lines_are {p = p} (Lines.more end few x b a r) (suc j) e =
        let h = line_reads im A x in
        let q : lines_from im (suc j) p ≡ p ∷ lines_from im j (next_line im p) = lines_more im j p (more_marked im A h b) ∙ rw h.next in
        ap (λ (ps : List ℕ). fields_among im (lines_reach im submenu ps)) q ∙ more_lines p _ ∙ rw (line_are x, lines_are r j (omega arith))

  -- ---- tables

  table_are : (left t : ℕ) (fs : List Field) (k : ℕ) → Table im left t fs k → fields_among im (table_reach im left t) ≡ fs
  unfolding Table table_reach lines_of
  table_are zero t fs k x = absurd x
  table_are (suc left) t fs k x =
      rw (first_line_lem im A x) (lines_are (table_reach im left) (Table im left) (table_are left) x.lines (most_lines_of_table + 1) refl)

  -- the fields of a well-formed image, whatever the sheet
  pub fields_are : (extent : ℕ) (w : WellFormed im extent) → w.fields ≡ fields_of im
  unfolding fields_of component_places
  fields_are extent w = sym (table_are deepest_table prolog_bytes w.fields w.lines w.table)
