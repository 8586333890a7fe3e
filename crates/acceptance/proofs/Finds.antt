-- A walk that is refused has come to a structure after structures without fault, with that structure's answer.
use Prim.Native.Nat.{ℕ, zero, suc, ◌+◌, ◌≤◌, ◌<◌}
use mathlib.Core.Path.{◌≡◌, refl, sym, ap, ◌∙◌, subst}
use mathlib.Core.Bool.{true, false}
use mathlib.Core.List.{List, [], ◌++◌, append-nil}
use native.Mathlib.Omega.{arith}
use native.Mathlib.Nat.{add-zero, add_assoc}
use lib.ListN.{length}
use Rattle.cmf.specs.Refusals.{refusal_number}
use Rattle.cmf.specs.declared.refusal.Refusal.TheVariants as fault
use Rattle.laws.specs.Choice.{when◌then◌else◌, ◌=?◌}
use Rattle.laws.proofs.Cases.{by_test, if_ind, if_true, if_false, if_ne, if_eq}
use Rattle.field.specs.declared.record.Field.{Field}
use Rattle.cmf.specs.Limits.{most_lines_of_table, most_lines}
use Rattle.cmf.specs.Readers.{even_from, title_at, head_at, component_at}
use Rattle.cmf.specs.Places.{lines_from, lines_of, components_from, components_of, held_by}
use Rattle.cmf.specs.Layouts.{Aligned}
use Rattle.cmf.specs.Grammar.{Table, next_line}
use Rattle.cmf.proofs.Agreement.{Agree, HeadReads, ComponentReads}
use Rattle.acceptance.specs.declared.index.Entry.{Entry}
use Rattle.acceptance.specs.declared.progress.Progress.{Progress}
use Rattle.acceptance.specs.Check.{State, with, fine, refused, take_title, on_title, on_head, on_component, on_components, on_submenu, on_body, on_line, on_lines, on_table}
use Rattle.acceptance.specs.Faults.{Structure, InComponents, InLine, InLines, InTableOver, TitleOnly, InTable}
use Rattle.acceptance.proofs.CameTo.{came_to, put, put_put}
use Rattle.acceptance.proofs.Takes.{Takes, takes_join}
use Rattle.acceptance.proofs.Steps.{title_goes, title_read, Headed, head_goes, head_read, Taken, component_goes, component_read_lem}
use Rattle.acceptance.proofs.Parts.{Parts, components_go, components_read}
use Rattle.acceptance.proofs.Line.{SubGoes, SubReads, LineRead, line_goes, line_read}
use Rattle.acceptance.proofs.Tables.{table_goes, table_read}
use Rattle.acceptance.proofs.Judging.{title_answer, odd_place, even_place}
use Rattle.acceptance.proofs.Answers.{answer, Turn, turn, fine_none}

module _ (im : List ℕ) (A : Agree im) (extent most : ℕ) where
  -- a structure that the walk has come to, with so many lines and these entries before it all, and the refusal r there
  pub record Fault (Comes : Structure → List Field → ℕ → Type 0) (lines : ℕ) (es : List Entry) (r : ℕ) : Type 0 where
    pub structure : Structure
    pub fields : List Field
    pub count : ℕ
    pub comes : Comes structure fields count
    pub takes : Takes extent most es fields
    pub room : lines + count ≤ most_lines
    pub answers : answer im extent most structure (lines + count) (put es fields) ≡ r

  -- the first structure of a stretch
  at_first : {C : Structure → List Field → ℕ → Type 0} (x : Structure) → C x [] 0 → (lines : ℕ) (es : List Entry) (r : ℕ) → lines ≤ most_lines →
      answer im extent most x lines es ≡ r → Fault C lines es r
  at_first x c lines es r l e = record {
    structure = x;
    fields = [];
    count = 0;
    comes = c;
    takes = Takes.none;
    room = omega arith;
    answers = rw (append-nil es, add-zero lines) e;
  }

  -- a structure after a stretch without fault
  past_line :
      {C D : Structure → List Field → ℕ → Type 0} (fs : List Field) (k lines : ℕ) (es : List Entry) (r : ℕ) → Takes extent most es fs →
      (f : Fault C (lines + k) (put es fs) r) → D f.structure (fs ++ f.fields) (k + f.count) → Fault D lines es r
  past_line fs k lines es r t f d = record {
    structure = f.structure;
    fields = fs ++ f.fields;
    count = k + f.count;
    comes = d;
    takes = takes_join extent most t f.takes;
    room = omega (arith, f.room);
    answers = rw (← add_assoc lines k f.count, ← put_put es fs f.fields) f.answers;
  }

  -- ---- components

  -- no line is counted among components
  pub record PartsFault (at lines : ℕ) (es : List Entry) (r : ℕ) : Type 0 where
    pub structure : Structure
    pub fields : List Field
    pub comes : InComponents im at structure fields
    pub takes : Takes extent most es fields
    pub answers : answer im extent most structure lines (put es fields) ≡ r

  abbrev Finds : ℕ → Type 0
  Finds k =
      (c at lines : ℕ) (es : List Entry) → c ≡ even_from at → at ≤ length im → length im + 1 < c + k → (r : ℕ) → 0 < r →
      refusal_number (on_components im extent most (components_from im k c) (came_to at lines es)).progress.refusal ≡ r → PartsFault at lines es r

  one_finds : (k : ℕ) → Finds k → Finds (suc k)
  unfolding components_from on_components
  one_finds k rest c at lines es e i h r pos f = go (turn one _ r f)
    where
      one : State
      one = on_component im extent most c (came_to at lines es)

      others : State
      others = on_components im extent most (when (component_at im c).last then [] else components_from im k (component_at im c).next.0) one

      on : fine one ≡ true → refusal_number others.progress.refusal ≡ r → PartsFault at lines es r
      on b q = by_test (component_at im c).last last more
        where
          w : Taken im A extent most c at es
          w = component_read_lem im A extent most c at lines es b

          v : ComponentReads im c
          v = A.component_reads c w.refusal

          end : ℕ
          end = (component_at im c).end

          fs : List Field
          fs = held_by (component_at im c)

          aligned : Aligned im 0 at c
          aligned = A.even_aligned at c (record { is = e; zeroed = w.padding }) (omega (arith, v.after, v.inside))

          step : one ≡ came_to end lines (put es fs)
          step = component_goes im A extent most c end at lines es fs v.component aligned w.takes

          last : (component_at im c).last ≡ true → PartsFault at lines es r
          last l = fine_none one r pos b (rw (if_true [] (components_from im k (component_at im c).next.0) l) at q)

          more : (component_at im c).last ≡ false → PartsFault at lines es r
          more l =
              let g = rw (step, if_false [] (components_from im k (component_at im c).next.0) l) at q in
              let x = rest (component_at im c).next.0 end lines (put es fs) v.next v.inside (omega (arith, v.next, v.after)) r pos g in
              record {
                structure = x.structure;
                fields = fs ++ x.fields;
                comes = InComponents.later c end aligned v.component (v.more l) x.comes;
                takes = takes_join extent most w.takes x.takes;
                answers = rw (← put_put es fs x.fields) x.answers;
              }

      go : Turn one others r → PartsFault at lines es r
      go (Turn.stopped q) = record {
        structure = Structure.component at c;
        fields = [];
        comes = InComponents.here c (even_place e);
        takes = Takes.none;
        answers = rw (append-nil es) q;
      }
      go (Turn.went b q) = on b q

  components_find : (k : ℕ) → Finds k
  components_find zero = λ c at lines es e i h r pos f. absurd (omega arith)
  components_find (suc k) = one_finds k (components_find k)

  -- ---- a line

  module _
      (submenu : ℕ → State → State) (Sub : ℕ → List Field → ℕ → Type 0) (Below : ℕ → Structure → List Field → ℕ → Type 0) where
    -- a submenu that is refused has a structure at fault
    abbrev pub SubFinds : Type 0
    SubFinds =
        (t at lines : ℕ) (es : List Entry) → lines ≤ most_lines → (r : ℕ) → 0 < r → refusal_number (submenu t (came_to at lines es)).progress.refusal ≡ r →
        Fault (Below t) lines es r

    plain_none :
        {X : Type 0} (p at lines : ℕ) (es : List Entry) (r : ℕ) → 0 < r → (head_at im p).submenu ≡ false →
        refusal_number (on_submenu im extent most submenu (head_at im p) (came_to at lines es)).progress.refusal ≡ r → X
    unfolding on_submenu
    plain_none p at lines es r pos e f = absurd (omega (arith, ap (λ (s : State). refusal_number s.progress.refusal) (sym (if_false _ (came_to at lines es) e)) ∙ f))

    submenu_finds :
        (p : ℕ) (s : State) (r : ℕ) → (head_at im p).submenu ≡ true → refusal_number (on_submenu im extent most submenu (head_at im p) s).progress.refusal ≡ r →
        refusal_number (submenu (head_at im p).table.0 s).progress.refusal ≡ r
    unfolding on_submenu
    submenu_finds p s r e f = sym (ap (λ (x : State). refusal_number x.progress.refusal) (if_true _ _ e)) ∙ f

    line_finds :
        SubFinds → (n before p at lines : ℕ) (es : List Entry) → lines ≤ most_lines → (r : ℕ) → 0 < r →
        refusal_number (on_line im extent most submenu n before p (came_to at lines es)).progress.refusal ≡ r → Fault (InLine im Below n before at p) lines es r
    unfolding on_line on_body components_of
    line_finds finds n before p at lines es few r pos f = go (turn S (on_body im extent most submenu p S) r f)
      where
        S : State
        S = on_head im extent most n before p (came_to at lines es)

        mid : ℕ
        mid = (head_at im p).end

        C : State
        C = on_components im extent most (components_of im p) (came_to mid (lines + 1) es)

        on : fine S ≡ true → refusal_number (on_body im extent most submenu p S).progress.refusal ≡ r → Fault (InLine im Below n before at p) lines es r
        on b q = next (turn C (on_submenu im extent most submenu (head_at im p) C) r (rw step at q))
          where
            h : Headed im A extent most n before p at lines
            h = head_read im A extent most n before p at lines es b

            v : HeadReads im p
            v = A.head_reads p h.refusal

            step : S ≡ came_to mid (lines + 1) es
            step = head_goes im A extent most n before p mid at lines es h.head h.aligned h.few h.room

            enough : length im + 1 < (head_at im p).component.0 + (length im + 1)
            enough = omega (arith, v.component, v.after)

            part : refusal_number C.progress.refusal ≡ r → Fault (InLine im Below n before at p) lines es r
            part e =
                let x = components_find (length im + 1) (head_at im p).component.0 mid (lines + 1) es v.component v.inside enough r pos e in
                record {
                  structure = x.structure;
                  fields = x.fields;
                  count = 1;
                  comes = InLine.components mid h.few h.aligned h.head x.comes;
                  takes = x.takes;
                  room = omega (arith, h.room);
                  answers = x.answers;
                }

            below : fine C ≡ true → refusal_number (on_submenu im extent most submenu (head_at im p) C).progress.refusal ≡ r → Fault (InLine im Below n before at p) lines es r
            below g e = by_test (head_at im p).submenu deep plain
              where
                c : Parts im A extent most mid es
                c = components_read im A extent most (length im + 1) (head_at im p).component.0 mid (lines + 1) es v.component v.inside enough g

                past : C ≡ came_to c.end (lines + 1) (put es c.fields)
                past = components_go im A extent most c.components (length im + 1) (head_at im p).component.0 (lines + 1) es v.component enough c.takes

                plain : (head_at im p).submenu ≡ false → Fault (InLine im Below n before at p) lines es r
                plain y = plain_none p c.end (lines + 1) (put es c.fields) r pos y (rw past at e)

                deep : (head_at im p).submenu ≡ true → Fault (InLine im Below n before at p) lines es r
                deep y =
                    let x = finds (head_at im p).table.0 c.end (lines + 1) (put es c.fields) (omega (arith, h.room)) r pos (submenu_finds p _ r y (rw past at e)) in
                    past_line c.fields 1 lines es r c.takes x
                    (InLine.submenu mid c.end h.few h.aligned h.head c.components (v.submenu y)
                    (subst (λ (t : ℕ). Below t x.structure x.fields x.count) v.table x.comes))

            next : Turn C (on_submenu im extent most submenu (head_at im p) C) r → Fault (InLine im Below n before at p) lines es r
            next (Turn.stopped e) = part e
            next (Turn.went g e) = below g e

        go : Turn S (on_body im extent most submenu p S) r → Fault (InLine im Below n before at p) lines es r
        go (Turn.stopped q) = at_first (Structure.head n before at p) InLine.first lines es r few q
        go (Turn.went b q) = on b q

    -- ---- lines

    abbrev LinesFind : ℕ → Type 0
    LinesFind j =
        (n before p at lines : ℕ) (es : List Entry) → n + j ≡ most_lines_of_table + 1 → n ≤ most_lines_of_table → lines ≤ most_lines → (r : ℕ) → 0 < r →
        refusal_number (on_lines im extent most submenu n before (lines_from im j p) (came_to at lines es)).progress.refusal ≡ r → Fault (InLines im Sub Below n before at p) lines es r

    one_line : SubGoes im A extent most submenu Sub → SubReads im A extent most submenu Sub → SubFinds → (j : ℕ) → LinesFind j → LinesFind (suc j)
    unfolding lines_from on_lines
    one_line goes reads finds j rest n before p at lines es e i few r pos f = go (turn one others r f)
      where
        one : State
        one = on_line im extent most submenu n before p (came_to at lines es)

        others : State
        others = on_lines im extent most submenu (n + 1) p (when (head_at im p).last then [] else lines_from im j (head_at im p).next.0) one

        this : refusal_number one.progress.refusal ≡ r → Fault (InLines im Sub Below n before at p) lines es r
        this q =
            let x = line_finds finds n before p at lines es few r pos q in
            record {
              structure = x.structure;
              fields = x.fields;
              count = x.count;
              comes = InLines.this x.comes;
              takes = x.takes;
              room = x.room;
              answers = x.answers;
            }

        on : fine one ≡ true → refusal_number others.progress.refusal ≡ r → Fault (InLines im Sub Below n before at p) lines es r
        on b q = by_test (head_at im p).last last more
          where
            x : LineRead im A extent most submenu Sub n before p at lines es
            x = line_read im A extent most submenu Sub reads n before p at lines es b

            h : HeadReads im p
            h = A.head_reads p x.refusal

            step : one ≡ came_to x.end (lines + x.count) (put es x.fields)
            step = line_goes im A extent most submenu Sub goes x.line at lines es x.few x.aligned x.takes x.room

            last : (head_at im p).last ≡ true → Fault (InLines im Sub Below n before at p) lines es r
            last l = fine_none one r pos b (rw (if_true [] (lines_from im j (head_at im p).next.0) l) at q)

            more : (head_at im p).last ≡ false → Fault (InLines im Sub Below n before at p) lines es r
            more l =
                let g = rw (if_false [] (lines_from im j (head_at im p).next.0) l ∙ ap (lines_from im j) h.next, step) at q in
                let y =
                rest (n + 1) p (next_line im p) x.end (lines + x.count) (put es x.fields) (omega arith) (omega (arith, x.few)) x.room r pos g in
                past_line x.fields x.count lines es r x.takes y (InLines.later x.end x.few x.aligned x.line (h.more l) y.comes)

        go : Turn one others r → Fault (InLines im Sub Below n before at p) lines es r
        go (Turn.stopped q) = this q
        go (Turn.went b q) = on b q

    lines_find : SubGoes im A extent most submenu Sub → SubReads im A extent most submenu Sub → SubFinds → (j : ℕ) → LinesFind j
    lines_find goes reads finds zero = λ n before p at lines es e i few r pos f. absurd (omega arith)
    lines_find goes reads finds (suc j) = one_line goes reads finds j (lines_find goes reads finds j)

  -- ---- tables

  -- a title that is refused is so by its own number
  title_finds : (t : ℕ) (s : State) (r : ℕ) → 0 < r → refusal_number (on_title im extent most t s).progress.refusal ≡ r → refusal_number (title_at im t).refusal ≡ r
  unfolding on_title take_title
  title_finds t s r pos =
      if_ind (λ (w : Progress). refusal_number w.refusal ≡ r → refusal_number (title_at im t).refusal ≡ r) (refusal_number (title_at im t).refusal =? 0) (λ _ e. absurd (omega arith)) (λ _ e. e)

  title_answers : (left t r : ℕ) → 0 < r → refusal_number (title_at im t).refusal ≡ r → title_answer im left t ≡ r
  title_answers left t r pos e = if_ne (refusal_number (title_at im t).refusal) 0 _ _ (λ z. omega arith) ∙ e

  deep_finds : (t at lines : ℕ) (es : List Entry) → lines ≤ most_lines → (r : ℕ) → 0 < r → refusal_number (on_table im extent most 0 t (came_to at lines es)).progress.refusal ≡ r → Fault (TitleOnly t) lines es r
  unfolding on_table
  deep_finds t at lines es few r pos f = at_first (Structure.title 0 t) TitleOnly.first lines es r few (go (turn S _ r f))
    where
      S : State
      S = on_title im extent most t (came_to at lines es)

      go : Turn S (with S (refused S.progress fault.Limit)) r → title_answer im 0 t ≡ r
      go (Turn.stopped q) = title_answers 0 t r pos (title_finds t _ r pos q)
      go (Turn.went b q) = if_eq (refusal_number (title_at im t).refusal) 0 _ _ (title_read im A extent most t (came_to at lines es) b) ∙ if_eq 0 0 _ _ refl ∙ q

  over_finds :
      (left : ℕ) → SubFinds (on_table im extent most left) (Table im left) (InTable im left) → (t at lines : ℕ) (es : List Entry) → lines ≤ most_lines → (r : ℕ) → 0 < r →
      refusal_number (on_table im extent most (suc left) t (came_to at lines es)).progress.refusal ≡ r → Fault (InTableOver im (Table im left) (InTable im left) (suc left) t) lines es r
  unfolding on_table lines_of
  over_finds left finds t at lines es few r pos f = go (turn S _ r f)
    where
      S : State
      S = on_title im extent most t (came_to at lines es)

      end : ℕ
      end = (title_at im t).end

      L : State → State
      L = on_lines im extent most (on_table im extent most left) 0 0 (lines_of im t)

      on : fine S ≡ true → refusal_number (L S).progress.refusal ≡ r → Fault (InTableOver im (Table im left) (InTable im left) (suc left) t) lines es r
      on b q =
          let z = title_read im A extent most t (came_to at lines es) b in
          let v = A.title_reads t z in
          let x =
          lines_find (on_table im extent most left) (Table im left) (InTable im left) (table_goes im A extent most left) (table_read im A extent most left) finds (most_lines_of_table + 1)
          0 0 (title_at im t).line.0 end lines es refl (omega arith) few r pos (rw (title_goes im A extent most t at lines es z) at q) in
          record {
            structure = x.structure;
            fields = x.fields;
            count = x.count;
            comes = InTableOver.lines end (title_at im t).line.0 v.text (odd_place v.line) x.comes;
            takes = x.takes;
            room = x.room;
            answers = x.answers;
          }

      go : Turn S (L S) r → Fault (InTableOver im (Table im left) (InTable im left) (suc left) t) lines es r
      go (Turn.stopped q) = at_first (Structure.title (suc left) t) InTableOver.first lines es r few (title_answers (suc left) t r pos (title_finds t _ r pos q))
      go (Turn.went b q) = on b q

  -- a table that is refused has a structure at fault
  pub table_finds : (left : ℕ) → SubFinds (on_table im extent most left) (Table im left) (InTable im left)
  unfolding InTable
  table_finds zero = λ t at lines es few r pos f. deep_finds t at lines es few r pos f
  table_finds (suc left) = λ t at lines es few r pos f. over_finds left (table_finds left) t at lines es few r pos f
