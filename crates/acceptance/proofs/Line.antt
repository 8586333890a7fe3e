-- A line with its components and its submenu: the walk takes it exactly where the grammar has it. What the walk does in the submenu and what
-- the grammar says of it are parameters.
use Prim.Native.Nat.{ℕ, ◌+◌, ◌≤◌, ◌<◌}
use mathlib.Core.Path.{◌≡◌, refl, ap, ◌∙◌, subst}
use mathlib.Core.Bool.{true, false}
use mathlib.Core.List.{List, ◌++◌}
use native.Mathlib.Omega.{arith}
use lib.ListN.{length}
use Rattle.cmf.specs.Refusals.{refusal_number}
use Rattle.laws.proofs.Cases.{by_test, if_eq, if_true, if_false}
use Rattle.field.specs.declared.record.Field.{Field}
use Rattle.cmf.specs.Limits.{most_lines_of_table, most_lines}
use Rattle.cmf.specs.Readers.{even_from, head_at}
use Rattle.cmf.specs.Places.{components_of}
use Rattle.cmf.specs.Layouts.{Aligned, Components}
use Rattle.cmf.specs.Grammar.{Head, Line, is_last, has_submenu}
use Rattle.cmf.proofs.Agreement.{Agree, HeadReads}
use Rattle.acceptance.specs.declared.index.Entry.{Entry}
use Rattle.acceptance.specs.Check.{State, with, fine, past_line, on_head, on_components, on_submenu, on_body, on_line}
use Rattle.acceptance.proofs.CameTo.{came_to, put, stood_put, Then, then_fine, then_is}
use Rattle.acceptance.proofs.Takes.{Takes, takes_join, takes_split}
use Rattle.acceptance.proofs.Steps.{Headed, head_goes, head_read}
use Rattle.acceptance.proofs.Parts.{Parts, components_go, components_read}

-- the walk has come somewhere with so many lines and these fields
pub record Came (s : State) (lines : ℕ) (es : List Entry) : Type 0 where
  pub end : ℕ
  pub is : s ≡ came_to end lines es

-- ---- what a head's marks say

module _ (im : List ℕ) (A : Agree im) where
  pub head_reads : {n before p end : ℕ} → Head im n before p end → HeadReads im p
  head_reads {p = p} h = A.head_reads p (A.head_is h).refusal

  pub last_marked : {p : ℕ} → HeadReads im p → is_last im p ≡ 1 → (head_at im p).last ≡ true
  last_marked {p} r b = by_test (head_at im p).last (λ e. e) (λ e. absurd (omega (arith, r.more e)))

  pub more_marked : {p : ℕ} → HeadReads im p → is_last im p ≡ 0 → (head_at im p).last ≡ false
  more_marked {p} r b = by_test (head_at im p).last (λ e. absurd (omega (arith, r.last e))) (λ e. e)

  pub submenu_marked : {p : ℕ} → HeadReads im p → has_submenu im p ≡ 1 → (head_at im p).submenu ≡ true
  submenu_marked {p} r b = by_test (head_at im p).submenu (λ e. e) (λ e. absurd (omega (arith, r.plain e)))

  pub plain_marked : {p : ℕ} → HeadReads im p → has_submenu im p ≡ 0 → (head_at im p).submenu ≡ false
  plain_marked {p} r b = by_test (head_at im p).submenu (λ e. absurd (omega (arith, r.submenu e))) (λ e. e)

module _ (im : List ℕ) (A : Agree im) (extent most : ℕ) where
  module _ (submenu : ℕ → State → State) (Sub : ℕ → List Field → ℕ → Type 0) where
    -- a submenu of the grammar is taken
    abbrev pub SubGoes : Type 0
    SubGoes =
        (t at lines : ℕ) (es : List Entry) (fs : List Field) (k : ℕ) → Sub t fs k → Takes extent most es fs → lines + k ≤ most_lines →
        Came (submenu t (came_to at lines es)) (lines + k) (put es fs)

    -- what is known of a submenu that the walk takes
    pub record Found (t lines : ℕ) (es : List Entry) : Type 0 where
      pub fields : List Field
      pub count : ℕ
      pub table : Sub t fields count
      pub takes : Takes extent most es fields
      pub few : lines + count ≤ most_lines

    -- a submenu that the walk takes is the grammar's
    abbrev pub SubReads : Type 0
    SubReads = (t at lines : ℕ) (es : List Entry) → fine (submenu t (came_to at lines es)) ≡ true → Found t lines es

    -- ---- one line

    -- a submenu, after which the walk goes on after the line
    submenu_goes : (p at lines : ℕ) (es es' : List Entry) (k : ℕ) → (head_at im p).submenu ≡ true → Came (submenu (head_at im p).table.0 (came_to at lines es)) k es' →
        on_submenu im extent most submenu (head_at im p) (came_to at lines es) ≡ came_to at k es'
    unfolding on_submenu
    submenu_goes p at lines es es' k e c =
        if_true _ _ e ∙ ap (λ (s : State). with s (past_line s.progress at)) c.is
        ∙ ap (λ (x : ℕ). came_to x k es') (if_eq 0 0 at c.end refl)

    submenu_fine :
        (p : ℕ) (s : State) → (head_at im p).submenu ≡ true → fine (on_submenu im extent most submenu (head_at im p) s) ≡ true → fine (submenu (head_at im p).table.0 s) ≡ true
    unfolding on_submenu fine
    submenu_fine p s e f = rw (if_true (with (submenu (head_at im p).table.0 s) (past_line (submenu (head_at im p).table.0 s).progress s.progress.at)) s e) at f

    plain_goes : (p : ℕ) (s : State) → (head_at im p).submenu ≡ false → on_submenu im extent most submenu (head_at im p) s ≡ s
    unfolding on_submenu
    plain_goes p s e = if_false _ _ e

    -- head and components of the grammar are taken
    pub body_goes :
        {n before p mid end : ℕ} {fs : List Field} (at lines : ℕ) (es : List Entry) → Head im n before p mid → Components im mid end fs →
        n < most_lines_of_table → Aligned im 1 at p → lines < most_lines → Takes extent most es fs →
        on_line im extent most submenu n before p (came_to at lines es) ≡ on_submenu im extent most submenu (head_at im p) (came_to end (lines + 1) (put es fs))
    unfolding on_line on_body components_of
    body_goes {n} {before} {p} {mid} {end} {fs} at lines es h cs few a room t =
        let r = head_reads im A h in
        let i = A.head_is h in
        let c : (head_at im p).component.0 ≡ even_from mid = omega (arith, r.component, i.ends) in
        then_is (on_body im extent most submenu p) _ mid (lines + 1) es (head_goes im A extent most n before p mid at lines es h a few room)
        ∙ then_is (on_submenu im extent most submenu (head_at im p)) _ end (lines + 1) (put es fs)
        (components_go im A extent most cs (length im + 1) (head_at im p).component.0 (lines + 1) es c (omega (arith, r.after, i.ends)) t)

    -- a line of the grammar is taken
    pub line_goes :
        SubGoes → {n before p end k : ℕ} {fs : List Field} → Line im Sub n before p end fs k → (at lines : ℕ) (es : List Entry) →
        n < most_lines_of_table → Aligned im 1 at p → Takes extent most es fs → lines + k ≤ most_lines →
        on_line im extent most submenu n before p (came_to at lines es) ≡ came_to end (lines + k) (put es fs)
    line_goes go {p = p} (Line.plain mid h cs b) at lines es few a t l =
        body_goes at lines es h cs few a (omega arith) t ∙ plain_goes p _ (plain_marked im A (head_reads im A h) b)
    line_goes go {p = p} {end = end} (Line.submenu {fs = fs} {gs = gs} {k = k} mid h cs b s) at lines es few a t l =
        let r = head_reads im A h in
        let u = takes_split extent most fs {gs = gs} t in
        let c = go (head_at im p).table.0 end (lines + 1) (put es fs) gs k (rw r.table s) u.1 (omega arith) in
        body_goes at lines es h cs few a (omega arith) u.0
        ∙ submenu_goes p end (lines + 1) (put es fs) (put (put es fs) gs) (lines + 1 + k) (submenu_marked im A r b) c
        ∙ stood_put end lines 1 k es fs gs

    -- what is known of a line that the walk takes
    pub record LineRead (n before p at lines : ℕ) (es : List Entry) : Type 0 where
      pub end : ℕ
      pub count : ℕ
      pub fields : List Field
      pub refusal : refusal_number (head_at im p).refusal ≡ 0
      pub few : n < most_lines_of_table
      pub aligned : Aligned im 1 at p
      pub line : Line im Sub n before p end fields count
      pub takes : Takes extent most es fields
      pub room : lines + count ≤ most_lines

    -- a line that the walk takes is the grammar's
    pub line_read :
        SubReads → (n before p at lines : ℕ) (es : List Entry) → fine (on_line im extent most submenu n before p (came_to at lines es)) ≡ true →
        LineRead n before p at lines es
    unfolding on_line on_body components_of
    line_read reads n before p at lines es f = by_test (head_at im p).submenu deep plain
      where
        S : State
        S = on_head im extent most n before p (came_to at lines es)

        t : Then S (on_body im extent most submenu p S)
        t = then_fine S _ f

        h : Headed im A extent most n before p at lines
        h = head_read im A extent most n before p at lines es t.before

        r : HeadReads im p
        r = A.head_reads p h.refusal

        mid : ℕ
        mid = (head_at im p).end

        step : S ≡ came_to mid (lines + 1) es
        step = head_goes im A extent most n before p mid at lines es h.head h.aligned h.few h.room

        body : fine (on_body im extent most submenu p (came_to mid (lines + 1) es)) ≡ true
        body = rw step at t.after

        C : State
        C = on_components im extent most (components_of im p) (came_to mid (lines + 1) es)

        u : Then C (on_submenu im extent most submenu (head_at im p) C)
        u = then_fine C _ body

        enough : length im + 1 < (head_at im p).component.0 + (length im + 1)
        enough = omega (arith, r.component, r.after)

        c : Parts im A extent most mid es
        c = components_read im A extent most (length im + 1) (head_at im p).component.0 mid (lines + 1) es r.component r.inside enough u.before

        on : C ≡ came_to c.end (lines + 1) (put es c.fields)
        on = components_go im A extent most c.components (length im + 1) (head_at im p).component.0 (lines + 1) es r.component enough c.takes

        rest : fine (on_submenu im extent most submenu (head_at im p) (came_to c.end (lines + 1) (put es c.fields))) ≡ true
        rest = rw on at u.after

        plain : (head_at im p).submenu ≡ false → LineRead n before p at lines es
        plain e = record {
          end = c.end;
          count = 1;
          fields = c.fields;
          refusal = h.refusal;
          few = h.few;
          aligned = h.aligned;
          line = Line.plain mid h.head c.components (r.plain e);
          takes = c.takes;
          room = omega (arith, h.room);
        }

        deep : (head_at im p).submenu ≡ true → LineRead n before p at lines es
        deep e =
            let d = reads (head_at im p).table.0 c.end (lines + 1) (put es c.fields) (submenu_fine p _ e rest) in
            record {
              end = c.end;
              count = 1 + d.count;
              fields = c.fields ++ d.fields;
              refusal = h.refusal;
              few = h.few;
              aligned = h.aligned;
              line = Line.submenu mid h.head c.components (r.submenu e) (subst (λ (x : ℕ). Sub x d.fields d.count) r.table d.table);
              takes = takes_join extent most c.takes d.takes;
              room = omega (arith, d.few);
            }
