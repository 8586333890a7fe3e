-- Where the quick walk has no doubt the check's walk comes as far: piece by piece, and over the components of a line and the lines of a table.
use Prim.Native.Nat.{ℕ, zero, suc, ◌+◌, ◌≤◌, ◌<◌}
use mathlib.Core.Path.{◌≡◌, refl, sym, ap, ◌∙◌}
use mathlib.Core.Bool.{Bool, true, false}
use mathlib.Core.List.{List, [], ◌∷◌, append-nil}
use native.Mathlib.Omega.{arith}
use lib.ListN.{length, length-append}
use Rattle.laws.specs.Bytes.{word_at}
use Rattle.laws.proofs.Cases.{if_true, if_false}
use Rattle.field.specs.Profiles.{profile_of}
use Rattle.field.specs.declared.record.Field.{Field}
use Rattle.cmf.specs.Refusals.{refusal_number}
use Rattle.cmf.specs.Limits.{most_fields, longest_sheet}
use Rattle.cmf.specs.Readers.{even_from, component_at}
use Rattle.cmf.specs.Places.{components_from}
use Rattle.cmf.specs.Layouts.{Aligned, Component, option_at, last_bit}
use Rattle.cmf.proofs.Agreement.{Agree}
use Rattle.cmf.proofs.Agreeing.{agree}
use Rattle.quick.specs.declared.tally.Tally.{Tally}
use Rattle.acceptance.specs.declared.index.Entry.{Entry}
use Rattle.acceptance.specs.Check.{State, fine, and_then, entry_of, on_component, on_components}
use Rattle.quick.specs.Accept.{Claimed, Claims, Passes, Covers, AsFar, Reaches, PartsLeft, AmongParts, past, fielded}
use Rattle.acceptance.proofs.CameTo.{came_to, put}
use Rattle.acceptance.proofs.Takes.{Takes, sheet_is}
use Rattle.acceptance.proofs.Steps.{component_goes}
use Rattle.quick.proofs.Marks.{covers_apart, covers_kept, covers_add}

-- ---- states that have come as far

-- such a state has refused nothing, so the next step is taken
pub far_then : {w : Tally} {m : List ℕ} {x : State} (y : State) → AsFar w m x → and_then x y ≡ y
unfolding and_then fine
far_then y t = if_true y _ (rw t.is refl)

-- a state that is known has come as far
pub far_at :
    {w : Tally} {m : List ℕ} (x : State) (at lines : ℕ) (es : List Entry) → x ≡ came_to at lines es → at ≡ w.at → lines ≡ w.lines → length es ≡ w.fields →
    Covers m es → AsFar w m x
far_at x at lines es e a l n c = rw e (record { is = rw (a, l) refl; count = n; covers = c })

module _ (im : List ℕ) where
  abbrev A : Agree im
  A = agree im

  -- ---- a component

  -- the field of a component is taken, if it is one
  takes_claims :
      {extent : ℕ} {old new : List ℕ} {before after : ℕ} {fs : List Field} (es : List Entry) → extent ≤ longest_sheet → length es ≡ before → Covers old es →
      Claims extent old new before after fs → Takes extent most_fields es fs
  takes_claims es h n c (Claims.none a b) = Takes.none
  takes_claims {extent} {old} es h n c (Claims.one {f = f} a b d) =
      Takes.add {es = es} (omega arith) (sheet_is extent f (record { short = h; inside = d.inside })) (covers_apart old (entry_of f) c d.free) Takes.none

  claims_count :
      {extent : ℕ} {old new : List ℕ} {before after : ℕ} {fs : List Field} (es : List Entry) → length es ≡ before → Claims extent old new before after fs → length (put es fs) ≡ after
  claims_count es n (Claims.none a b) = rw append-nil (omega arith)
  claims_count es n (Claims.one {f = f} a b d) = omega (arith, length-append es (entry_of f ∷ []))

  claims_cover : {extent : ℕ} {old new : List ℕ} {before after : ℕ} {fs : List Field} (es : List Entry) → Covers old es → Claims extent old new before after fs → Covers new (put es fs)
  claims_cover es c (Claims.none a b) = rw (append-nil, a) c
  claims_cover {old = old} {new = new} es c (Claims.one {f = f} a b d) = covers_add new (entry_of f) (covers_kept old new d.kept c) d.marked

  -- an option
  pub option_passes :
      {extent p end from : ℕ} {v : Tally} {old new : List ℕ} → Component im p end (option_at im p ∷ []) → from ≡ word_at im (p + 4) → v.fields < most_fields → Claimed extent old new from 1 →
      Passes im extent p v (fielded v end) old new
  unfolding profile_of
  option_passes {p = p} c e n k = record { fields = option_at im p ∷ []; component = c; lines = refl; claims = Claims.one n refl (rw e at k) }

  -- a constant string
  pub string_passes : {extent p end : ℕ} {v : Tally} {marks : List ℕ} → Component im p end [] → Passes im extent p v (past v end) marks marks
  string_passes c = record { fields = []; component = c; lines = refl; claims = Claims.none refl refl }

  component_far :
      {extent : ℕ} {v w : Tally} {old new : List ℕ} (p : ℕ) (s : State) → extent ≤ longest_sheet → Aligned im 0 v.at p → Passes im extent p v w old new → AsFar v old s →
      AsFar w new (on_component im extent most_fields p s)
  component_far {extent} {v} {w} {old} {new} p s h a q t =
      let es : List Entry = s.fields in
      let g = takes_claims es h t.count t.covers q.claims in
      far_at (on_component im extent most_fields p s) w.at v.lines (put es q.fields)
      (ap (on_component im extent most_fields p) t.is ∙ component_goes im A extent most_fields p w.at v.at v.lines es q.fields q.component a g)
      refl (sym q.lines) (claims_count es t.count q.claims) (claims_cover es t.covers q.claims)

  -- ---- the components of a line: those that are left, done to a state that has come as far, are the whole

  pub going_start : (extent : ℕ) (u : Tally) (m : List ℕ) → AmongParts im extent u u m m
  going_start extent u m = record { go = λ s h t. record { here = s; fuel = length im + 1; far = t; rest = refl; enough = omega arith } }

  module _ {extent : ℕ} {v w : Tally} {mid new : List ℕ} (a : Aligned im 0 v.at (even_from v.at)) (q : Passes im extent (even_from v.at) v w mid new) where
    abbrev p : ℕ
    p = even_from v.at

    reads_none : refusal_number (component_at im p).refusal ≡ 0
    reads_none = (A.component_is q.component).refusal

    last_is : (b : Bool) → (component_at im p).last ≡ b → (last_bit im p ≡ 0 → b ≡ false) × (last_bit im p ≡ 1 → b ≡ true)
    last_is true e = (λ z. absurd (omega (arith, (A.component_reads p reads_none).last e)), λ _. refl)
    last_is false e = (λ _. refl, λ z. absurd (omega (arith, (A.component_reads p reads_none).more e)))

    next_is : (component_at im p).next.0 ≡ even_from w.at
    next_is = (A.component_reads p reads_none).next ∙ ap even_from (A.component_is q.component).ends

    pub onward : v.at < w.at
    onward = omega (arith, (A.component_reads p reads_none).after, (A.component_is q.component).ends)

    pub part_fits : w.at ≤ length im
    part_fits = omega (arith, (A.component_reads p reads_none).inside, (A.component_is q.component).ends)

    inside : v.at < length im
    inside = omega (arith, (A.component_reads p reads_none).after, (A.component_reads p reads_none).inside)

    -- one component, and then the others
    more_go : (first : ℕ) (s : State) → extent ≤ longest_sheet → last_bit im p ≡ 0 → PartsLeft im extent first s v mid → PartsLeft im extent first s w new
    unfolding components_from on_components
    more_go first s h z g = by g.fuel refl
      where
        by : (k : ℕ) → g.fuel ≡ k → PartsLeft im extent first s w new
        by zero e = absurd (omega (arith, g.enough, inside))
        by (suc k) e =
            let t = component_far p g.here h a q g.far in
            record {
              here = on_component im extent most_fields p g.here;
              fuel = k;
              far = t;
              rest =
                  g.rest
                  ∙ rw (e, if_false [] (components_from im k (component_at im p).next.0) ((last_is (component_at im p).last refl).0 z), next_is)
                  (far_then (on_components im extent most_fields (components_from im k (even_from w.at)) (on_component im extent most_fields p g.here)) t);
              enough = omega (arith, g.enough, onward);
            }

    -- the last one
    last_go : (first : ℕ) (s : State) → extent ≤ longest_sheet → last_bit im p ≡ 1 → PartsLeft im extent first s v mid →
        AsFar w new (on_components im extent most_fields (components_from im (length im + 1) first) s)
    unfolding components_from on_components
    last_go first s h z g = by g.fuel refl
      where
        by : (k : ℕ) → g.fuel ≡ k → AsFar w new (on_components im extent most_fields (components_from im (length im + 1) first) s)
        by zero e = absurd (omega (arith, g.enough, inside))
        by (suc k) e =
            let t = component_far p g.here h a q g.far in
            rw (g.rest, e, if_true [] (components_from im k (component_at im p).next.0) ((last_is (component_at im p).last refl).1 z), far_then (on_component im extent most_fields p g.here) t) t

    pub going_more : {u : Tally} {old : List ℕ} → last_bit im p ≡ 0 → AmongParts im extent u v old mid → AmongParts im extent u w old new
    going_more {u} z g = record { go = λ s h t. more_go (even_from u.at) s h z (g.go s h t) }

    pub going_last :
        {u : Tally} {old : List ℕ} → last_bit im p ≡ 1 → AmongParts im extent u v old mid →
        Reaches extent (on_components im extent most_fields (components_from im (length im + 1) (even_from u.at))) u w old new
    going_last {u} z g = record { reach = λ s h t. last_go (even_from u.at) s h z (g.go s h t) }
