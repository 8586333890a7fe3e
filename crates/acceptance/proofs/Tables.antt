-- The lines of a table, and tables by the levels left: the walk takes them exactly where the grammar has them. The list of places is long
-- enough, since the 100th line is refused.
use Prim.Native.Nat.{ℕ, zero, suc, ◌+◌, ◌≤◌}
use mathlib.Core.Path.{◌≡◌, refl, ap, ◌∙◌}
use mathlib.Core.Bool.{true, false}
use mathlib.Core.List.{List, [], ◌∷◌, ◌++◌}
use native.Mathlib.Omega.{arith}
use native.Mathlib.Nat.{add_assoc}
use Rattle.cmf.specs.declared.refusal.Refusal.TheVariants as fault
use Rattle.laws.specs.Choice.{when◌then◌else◌}
use Rattle.laws.proofs.Cases.{by_test, if_true, if_false}
use Rattle.field.specs.declared.record.Field.{Field}
use Rattle.cmf.specs.Limits.{most_lines_of_table, most_lines}
use Rattle.cmf.specs.Readers.{title_at, head_at}
use Rattle.cmf.specs.Places.{lines_from, lines_of}
use Rattle.cmf.specs.Layouts.{Aligned}
use Rattle.cmf.specs.Grammar.{Line, Lines, TableOver, Table, next_line}
use Rattle.cmf.proofs.Agreement.{Agree, HeadReads}
use Rattle.acceptance.specs.declared.index.Entry.{Entry}
use Rattle.acceptance.specs.Check.{State, fine, on_title, on_line, on_lines, on_table}
use Rattle.acceptance.proofs.CameTo.{came_to, put, put_put, is_refused_lem, Then, then_fine, then_is}
use Rattle.acceptance.proofs.Takes.{Takes, takes_join, takes_split}
use Rattle.acceptance.proofs.Steps.{title_goes, title_read}
use Rattle.acceptance.proofs.Line.{Came, head_reads, last_marked, more_marked, SubGoes, SubReads, LineRead, line_goes, line_read}

-- the list of places at the last line, and before it
pub lines_last : (im : List ℕ) (k p : ℕ) → (head_at im p).last ≡ true → lines_from im (suc k) p ≡ p ∷ []
unfolding lines_from
lines_last im k p e = ap (λ (ps : List ℕ). p ∷ ps) (if_true [] _ e)

pub lines_more : (im : List ℕ) (k p : ℕ) → (head_at im p).last ≡ false → lines_from im (suc k) p ≡ p ∷ lines_from im k (head_at im p).next.0
unfolding lines_from
lines_more im k p e = ap (λ (ps : List ℕ). p ∷ ps) (if_false [] _ e)

-- a line's head in a line
pub line_reads : (im : List ℕ) (A : Agree im) {Sub : ℕ → List Field → ℕ → Type 0} {n before p end k : ℕ} {fs : List Field} → Line im Sub n before p end fs k → HeadReads im p
line_reads im A (Line.plain mid h cs b) = head_reads im A h
line_reads im A (Line.submenu mid h cs b s) = head_reads im A h

-- where the first line is
pub first_line_lem : (im : List ℕ) (A : Agree im) {Sub : ℕ → List Field → ℕ → Type 0} {t k : ℕ} {fs : List Field} (x : TableOver im Sub t fs k) → (title_at im t).line.0 ≡ x.first_line
first_line_lem im A {t = t} x =
    let i = A.title_is x.title in omega (arith, (A.title_reads t i.refusal).line, i.ends, (A.odd_is x.aligned).is)

-- what was reached, told otherwise
came_by : {s r : State} {lines k : ℕ} {es fs : List Entry} → s ≡ r → lines ≡ k → es ≡ fs → Came r lines es → Came s k fs
came_by {lines = lines} e l f c = record { end = c.end; is = e ∙ c.is ∙ rw (l, f) }

module _ (im : List ℕ) (A : Agree im) (extent most : ℕ) where
  module _ (submenu : ℕ → State → State) (Sub : ℕ → List Field → ℕ → Type 0) where
    -- one line, and then the others
    pub walk_on :
        (n before p : ℕ) (ps : List ℕ) (s : State) (at lines : ℕ) (es : List Entry) → on_line im extent most submenu n before p s ≡ came_to at lines es →
        on_lines im extent most submenu n before (p ∷ ps) s ≡ on_lines im extent most submenu (n + 1) p ps (came_to at lines es)
    unfolding on_lines
    walk_on n before p ps s at lines es e = then_is (on_lines im extent most submenu (n + 1) p ps) (on_line im extent most submenu n before p s) at lines es e

    walk_done : (n before : ℕ) (s : State) → on_lines im extent most submenu n before [] s ≡ s
    unfolding on_lines
    walk_done n before s = refl

    -- lines of the grammar are taken
    pub lines_go :
        SubGoes im A extent most submenu Sub → {n before p k : ℕ} {fs : List Field} → Lines im Sub n before p fs k →
        (j at lines : ℕ) (es : List Entry) → n + j ≡ most_lines_of_table + 1 → Aligned im 1 at p → Takes extent most es fs → lines + k ≤ most_lines →
        Came (on_lines im extent most submenu n before (lines_from im j p) (came_to at lines es)) (lines + k) (put es fs)
    lines_go go (Lines.last end few x b) zero at lines es e a t l = absurd (omega arith)
    lines_go go {n} {before} {p} {k} {fs} (Lines.last end few x b) (suc j) at lines es e a t l = record {
      end = end;
      is =
          ap (λ (ps : List ℕ). on_lines im extent most submenu n before ps (came_to at lines es)) (lines_last im j p (last_marked im A (line_reads im A x) b))
          ∙ walk_on n before p [] (came_to at lines es) end (lines + k) (put es fs) (line_goes im A extent most submenu Sub go x at lines es few a t l)
          ∙ walk_done (n + 1) p (came_to end (lines + k) (put es fs));
    }
    lines_go go (Lines.more end few x b a' r) zero at lines es e a t l = absurd (omega arith)
    lines_go go {n} {before} {p} (Lines.more {k = k} {j = i} {fs = fs} {gs = gs} end few x b a' r) (suc j) at lines es e a t l =
        let h = line_reads im A x in
        let u = takes_split extent most fs {gs = gs} t in
        came_by
        (ap (λ (ps : List ℕ). on_lines im extent most submenu n before ps (came_to at lines es)) (lines_more im j p (more_marked im A h b) ∙ rw h.next)
        ∙ walk_on n before p (lines_from im j (next_line im p)) (came_to at lines es) end (lines + k) (put es fs)
        (line_goes im A extent most submenu Sub go x at lines es few a u.0 (omega arith)))
        (add_assoc lines k i) (put_put es fs gs)
        (lines_go go r j end (lines + k) (put es fs) (omega arith) a' u.1 (omega arith))

    -- what is known of lines that the walk takes
    pub record LinesRead (n before p at lines : ℕ) (es : List Entry) : Type 0 where
      pub fields : List Field
      pub count : ℕ
      pub aligned : Aligned im 1 at p
      pub rows : Lines im Sub n before p fields count
      pub takes : Takes extent most es fields
      pub room : lines + count ≤ most_lines

    abbrev Reads : ℕ → Type 0
    Reads j =
        (n before p at lines : ℕ) (es : List Entry) → n + j ≡ most_lines_of_table + 1 → n ≤ most_lines_of_table →
        fine (on_lines im extent most submenu n before (lines_from im j p) (came_to at lines es)) ≡ true → LinesRead n before p at lines es

    -- one turn of it
    one_read : SubGoes im A extent most submenu Sub → SubReads im A extent most submenu Sub → (j : ℕ) → Reads j → Reads (suc j)
    unfolding lines_from on_lines
    one_read go reads j rest n before p at lines es e i f = by_test (head_at im p).last last more
      where
        one : State
        one = on_line im extent most submenu n before p (came_to at lines es)

        t : Then one (on_lines im extent most submenu (n + 1) p (when (head_at im p).last then [] else lines_from im j (head_at im p).next.0) one)
        t = then_fine one _ f

        x : LineRead im A extent most submenu Sub n before p at lines es
        x = line_read im A extent most submenu Sub reads n before p at lines es t.before

        h : HeadReads im p
        h = A.head_reads p x.refusal

        step : one ≡ came_to x.end (lines + x.count) (put es x.fields)
        step = line_goes im A extent most submenu Sub go x.line at lines es x.few x.aligned x.takes x.room

        last : (head_at im p).last ≡ true → LinesRead n before p at lines es
        last l = record {
          fields = x.fields;
          count = x.count;
          aligned = x.aligned;
          rows = Lines.last x.end x.few x.line (h.last l);
          takes = x.takes;
          room = x.room;
        }

        more : (head_at im p).last ≡ false → LinesRead n before p at lines es
        more l =
            let g = rw (if_false [] (lines_from im j (head_at im p).next.0) l ∙ ap (lines_from im j) h.next, step) at t.after in
            let b = rest (n + 1) p (next_line im p) x.end (lines + x.count) (put es x.fields) (omega arith) (omega (arith, x.few)) g in
            record {
              fields = x.fields ++ b.fields;
              count = x.count + b.count;
              aligned = x.aligned;
              rows = Lines.more x.end x.few x.line (h.more l) b.aligned b.rows;
              takes = takes_join extent most x.takes b.takes;
              room = omega (arith, b.room);
            }

    -- lines that the walk takes are the grammar's
    pub lines_read : SubGoes im A extent most submenu Sub → SubReads im A extent most submenu Sub → (j : ℕ) → Reads j
    lines_read go reads zero = λ n before p at lines es e i f. absurd (omega arith)
    lines_read go reads (suc j) = one_read go reads j (lines_read go reads j)

  -- ---- tables

  -- tables of the grammar are taken
  pub table_goes : (left : ℕ) → SubGoes im A extent most (on_table im extent most left) (Table im left)
  unfolding on_table Table lines_of
  table_goes zero = λ t at lines es fs k x. absurd x
  table_goes (suc left) = λ t at lines es fs k x u l.
      let i = A.title_is x.title in
      let s : on_title im extent most t (came_to at lines es) ≡ came_to x.title_end lines es = title_goes im A extent most t at lines es i.refusal ∙ rw i.ends in
      came_by
      (then_is (on_lines im extent most (on_table im extent most left) 0 0 (lines_from im (most_lines_of_table + 1) (title_at im t).line.0)) _ x.title_end lines es s ∙ rw (first_line_lem im A x))
      refl refl
      (lines_go (on_table im extent most left) (Table im left) (table_goes left) x.lines (most_lines_of_table + 1) x.title_end lines es refl x.aligned u l)

  -- R15: no table is taken where no level is left
  too_deep : {A : Type 0} (t : ℕ) (s : State) → fine (on_table im extent most 0 t s) ≡ true → A
  unfolding on_table
  too_deep t s f = is_refused_lem (on_title im extent most t s) fault.Limit (then_fine _ _ f).after

  -- tables that the walk takes are the grammar's
  pub table_read : (left : ℕ) → SubReads im A extent most (on_table im extent most left) (Table im left)
  unfolding on_table Table lines_of
  table_read zero = λ t at lines es f. too_deep t _ f
  table_read (suc left) = λ t at lines es f.
      let w = then_fine _ _ f in
      let z = title_read im A extent most t (came_to at lines es) w.before in
      let r = A.title_reads t z in
      let end = (title_at im t).end in
      let b =
      lines_read (on_table im extent most left) (Table im left) (table_goes left) (table_read left) (most_lines_of_table + 1) 0 0 (title_at im t).line.0 end lines es refl (omega arith)
      (rw (title_goes im A extent most t at lines es z) at w.after) in
      record {
        fields = b.fields;
        count = b.count;
        table = record { title_end = end; first_line = (title_at im t).line.0; title = r.text; aligned = b.aligned; lines = b.rows };
        takes = b.takes;
        few = b.room;
      }
