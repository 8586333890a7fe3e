-- Where a structure comes after structures without fault, the walk takes those and comes to it: its answer, if it is a refusal, is the walk's.
use Prim.Native.Nat.{ℕ, zero, suc, ◌+◌, ◌≤◌, ◌<◌}
use mathlib.Core.Path.{◌≡◌, refl, sym, ap, ◌∙◌}
use mathlib.Core.Bool.{true}
use mathlib.Core.List.{List, append-nil}
use native.Mathlib.Omega.{arith}
use native.Mathlib.Nat.{add-zero, add_assoc}
use lib.ListN.{length}
use borrow.Author.Tests.{eqb-true, eqb-false}
use Rattle.cmf.specs.Refusals.{refusal_number}
use Rattle.cmf.specs.declared.refusal.Refusal.TheVariants as fault
use Rattle.laws.specs.Choice.{◌=?◌}
use Rattle.laws.proofs.Cases.{if_ind, if_true}
use Rattle.field.specs.declared.record.Field.{Field}
use Rattle.cmf.specs.Limits.{most_lines_of_table, most_lines}
use Rattle.cmf.specs.Readers.{even_from, title_at, head_at, component_at}
use Rattle.cmf.specs.Places.{lines_from, lines_of, components_from, components_of}
use Rattle.cmf.specs.Layouts.{Aligned}
use Rattle.cmf.specs.Grammar.{Head, Table, next_line}
use Rattle.cmf.proofs.Agreement.{Agree}
use Rattle.acceptance.specs.declared.index.Entry.{Entry}
use Rattle.acceptance.specs.declared.progress.Progress.{Progress}
use Rattle.acceptance.specs.Check.{State, with, refused, take_title, on_title, on_components, on_submenu, on_body, on_line, on_lines, on_table}
use Rattle.acceptance.specs.Faults.{Structure, InComponents, InLine, InLines, InTableOver, TitleOnly, InTable}
use Rattle.acceptance.proofs.CameTo.{came_to, put, put_put, then_is}
use Rattle.acceptance.proofs.Takes.{Takes, takes_split}
use Rattle.acceptance.proofs.Steps.{title_goes, head_goes, component_goes}
use Rattle.acceptance.proofs.Parts as parts
use Rattle.acceptance.proofs.Line.{head_reads, more_marked, submenu_marked, SubGoes, line_goes, body_goes}
use Rattle.acceptance.proofs.Tables.{lines_more, line_reads, walk_on, table_goes}
use Rattle.acceptance.proofs.Judging.{is_odd, is_even}
use Rattle.acceptance.proofs.Answers.{answer, stops}

module _ (im : List ℕ) (A : Agree im) (extent most : ℕ) where
  -- the walk's refusal is the answer at x
  abbrev Falls : State → Structure → ℕ → List Entry → Type 0
  Falls s x lines es = (r : ℕ) → 0 < r → answer im extent most x lines es ≡ r → refusal_number s.progress.refusal ≡ r

  -- ---- components

  here_falls :
      (k c at p lines : ℕ) (es : List Entry) → c ≡ p → Falls (on_components im extent most (components_from im (suc k) c) (came_to at lines es)) (Structure.component at p) lines es
  unfolding components_from on_components
  here_falls k c at p lines es e r h a = stops _ _ r h (rw e a)

  components_fall :
      {at : ℕ} {x : Structure} {gs : List Field} → InComponents im at x gs →
      (k c lines : ℕ) (es : List Entry) → c ≡ even_from at → at ≤ length im → length im + 1 < c + k → Takes extent most es gs →
      Falls (on_components im extent most (components_from im k c) (came_to at lines es)) x lines (put es gs)
  components_fall (InComponents.here p o) zero c lines es e i h t = absurd (omega arith)
  components_fall {at} (InComponents.here p o) (suc k) c lines es e i h t =
      rw (append-nil es) (here_falls k c at p lines es (e ∙ sym (is_even o)))
  components_fall (InComponents.later p mid a x l r) zero c lines es e i h t = absurd (omega arith)
  components_fall {at} {x = y} (InComponents.later {fs = fs} {gs = gs} p mid a x l r) (suc k) c lines es e i h t =
      let n = parts.turn im A a x k c e h in
      let u = takes_split extent most fs {gs = gs} t in
      let w = A.component_is x in
      let v = A.component_reads p w.refusal in
      let step : on_components im extent most (components_from im (suc k) c) (came_to at lines es)
      ≡ on_components im extent most (components_from im k (component_at im p).next.0) (came_to mid lines (put es fs)) =
      ap (λ (cs : List ℕ). on_components im extent most cs (came_to at lines es)) (rw n.here (parts.places_more im k p (parts.last_false im A x l)))
      ∙ parts.walk_on im A extent most p _ (came_to at lines es) mid lines (put es fs) (component_goes im A extent most p mid at lines es fs x a u.0) in
      rw (step, ← put_put es fs gs)
      (components_fall r k (component_at im p).next.0 lines (put es fs) n.next (omega (arith, w.ends, v.inside)) n.enough u.1)

  -- ---- a line

  module _
      (submenu : ℕ → State → State) (Sub : ℕ → List Field → ℕ → Type 0) (Below : ℕ → Structure → List Field → ℕ → Type 0) where
    -- a structure in a submenu is come to
    abbrev pub SubFalls : Type 0
    SubFalls =
        (t at lines : ℕ) (es : List Entry) (x : Structure) (gs : List Field) (k : ℕ) → Below t x gs k → Takes extent most es gs → lines + k ≤ most_lines →
        Falls (submenu t (came_to at lines es)) x (lines + k) (put es gs)

    submenu_falls :
        (p : ℕ) (s : State) (r : ℕ) → (head_at im p).submenu ≡ true → refusal_number (submenu (head_at im p).table.0 s).progress.refusal ≡ r →
        refusal_number (on_submenu im extent most submenu (head_at im p) s).progress.refusal ≡ r
    unfolding on_submenu
    submenu_falls p s r e a = ap (λ (x : State). refusal_number x.progress.refusal) (if_true _ _ e) ∙ a

    head_falls : (n before at p lines : ℕ) (es : List Entry) → Falls (on_line im extent most submenu n before p (came_to at lines es)) (Structure.head n before at p) lines es
    unfolding on_line
    head_falls n before at p lines es r h a = stops _ _ r h a

    part_falls :
        {n before p mid : ℕ} {x : Structure} {fs : List Field} (at lines : ℕ) (es : List Entry) → Head im n before p mid → InComponents im mid x fs →
        n < most_lines_of_table → Aligned im 1 at p → lines < most_lines → Takes extent most es fs →
        Falls (on_line im extent most submenu n before p (came_to at lines es)) x (lines + 1) (put es fs)
    unfolding on_line on_body components_of
    part_falls {n} {before} {p} {mid} at lines es h c few a room t r pos e =
        let v = head_reads im A h in
        let i = A.head_is h in
        let q : (head_at im p).component.0 ≡ even_from mid = omega (arith, v.component, i.ends) in
        ap (λ (s : State). refusal_number s.progress.refusal)
        (then_is (on_body im extent most submenu p) _ mid (lines + 1) es (head_goes im A extent most n before p mid at lines es h a few room))
        ∙ stops _ _ r pos
        (components_fall c (length im + 1) (head_at im p).component.0 (lines + 1) es q (omega (arith, v.inside, i.ends)) (omega (arith, v.after, i.ends)) t r pos e)

    line_falls :
        SubFalls → {n before at p k : ℕ} {x : Structure} {fs : List Field} → InLine im Below n before at p x fs k → (lines : ℕ) (es : List Entry) →
        Takes extent most es fs → lines + k ≤ most_lines → Falls (on_line im extent most submenu n before p (came_to at lines es)) x (lines + k) (put es fs)
    line_falls go {n} {before} {at} {p} InLine.first lines es t l = rw (append-nil es, add-zero lines) (head_falls n before at p lines es)
    line_falls go {at = at} (InLine.components mid few a h c) lines es t l = part_falls at lines es h c few a (omega arith) t
    line_falls go {at = at} {p = p} {x = x} (InLine.submenu {fs = fs} {gs = gs} {k = k} mid end few a h c b y) lines es t l = λ r pos e.
        let v = head_reads im A h in
        let u = takes_split extent most fs {gs = gs} t in
        ap (λ (s : State). refusal_number s.progress.refusal) (body_goes im A extent most submenu Sub at lines es h c few a (omega arith) u.0)
        ∙ submenu_falls p _ r (submenu_marked im A v b)
        (go (head_at im p).table.0 end (lines + 1) (put es fs) x gs k (rw v.table y) u.1 (omega arith) r pos
        (rw (add_assoc lines 1 k, put_put es fs gs) e))

    -- ---- lines

    this_falls :
        (j n before at p : ℕ) (s : State) (r : ℕ) → 0 < r → refusal_number (on_line im extent most submenu n before p s).progress.refusal ≡ r →
        refusal_number (on_lines im extent most submenu n before (lines_from im (suc j) p) s).progress.refusal ≡ r
    unfolding lines_from on_lines
    this_falls j n before at p s r h e = stops _ _ r h e

    lines_fall :
        SubGoes im A extent most submenu Sub → SubFalls → {n before at p k : ℕ} {x : Structure} {fs : List Field} → InLines im Sub Below n before at p x fs k →
        (j lines : ℕ) (es : List Entry) → n + j ≡ most_lines_of_table + 1 → n ≤ most_lines_of_table → Takes extent most es fs → lines + k ≤ most_lines →
        Falls (on_lines im extent most submenu n before (lines_from im j p) (came_to at lines es)) x (lines + k) (put es fs)
    lines_fall goes go (InLines.this y) zero lines es e few t l = absurd (omega arith)
    lines_fall goes go {n} {before} {at} {p} (InLines.this y) (suc j) lines es e few t l = λ r h a.
        this_falls j n before at p _ r h (line_falls go y lines es t l r h a)
    lines_fall goes go (InLines.later end f a x b y) zero lines es e few t l = absurd (omega arith)
    lines_fall goes go {n} {before} {at} {p} {x = z} (InLines.later {k = k} {j = i} {fs = fs} {gs = gs} end f a x b y) (suc j) lines es e few t l = λ r pos q.
        let h = line_reads im A x in
        let u = takes_split extent most fs {gs = gs} t in
        ap (λ (s : State). refusal_number s.progress.refusal)
        (ap (λ (ps : List ℕ). on_lines im extent most submenu n before ps (came_to at lines es)) (lines_more im j p (more_marked im A h b) ∙ rw h.next)
        ∙ walk_on im A extent most submenu Sub n before p (lines_from im j (next_line im p)) (came_to at lines es) end (lines + k) (put es fs)
        (line_goes im A extent most submenu Sub goes x at lines es f a u.0 (omega arith)))
        ∙ lines_fall goes go y j (lines + k) (put es fs) (omega arith) (omega arith) u.1 (omega arith) r pos
        (rw (add_assoc lines k i, put_put es fs gs) q)

  -- ---- tables

  -- a title's refusal
  title_falls : (t : ℕ) (s : State) (r : ℕ) → 0 < r → refusal_number (title_at im t).refusal ≡ r → refusal_number (on_title im extent most t s).progress.refusal ≡ r
  unfolding on_title take_title
  title_falls t s r h e =
      if_ind (λ (w : Progress). refusal_number w.refusal ≡ r) (refusal_number (title_at im t).refusal =? 0) (λ q. absurd (omega (arith, eqb-true (refusal_number (title_at im t).refusal) 0 q))) (λ _. e)

  -- R15: a table too deep
  deep_falls : (t at lines : ℕ) (es : List Entry) → Falls (on_table im extent most 0 t (came_to at lines es)) (Structure.title 0 t) lines es
  unfolding on_table
  deep_falls t at lines es r h =
      if_ind (λ (k : ℕ). k ≡ r → refusal_number (on_table im extent most 0 t (came_to at lines es)).progress.refusal ≡ r) (refusal_number (title_at im t).refusal =? 0)
      (λ q. if_ind (λ (k : ℕ). k ≡ r → refusal_number (on_table im extent most 0 t (came_to at lines es)).progress.refusal ≡ r) (0 =? 0)
      (λ _ e. ap (λ (s : State). refusal_number s.progress.refusal)
      (then_is (λ s. with s (refused s.progress fault.Limit)) _ (title_at im t).end lines es (title_goes im A extent most t at lines es (eqb-true _ 0 q))) ∙ e)
      (λ z _. absurd (eqb-false 0 0 z refl)))
      (λ _ e. stops _ _ r h (title_falls t _ r h e))

  over_falls : (left t at lines : ℕ) (es : List Entry) → Falls (on_table im extent most (suc left) t (came_to at lines es)) (Structure.title (suc left) t) lines es
  unfolding on_table
  over_falls left t at lines es r h =
      if_ind (λ (k : ℕ). k ≡ r → refusal_number (on_table im extent most (suc left) t (came_to at lines es)).progress.refusal ≡ r) (refusal_number (title_at im t).refusal =? 0)
      (λ q. if_ind (λ (k : ℕ). k ≡ r → refusal_number (on_table im extent most (suc left) t (came_to at lines es)).progress.refusal ≡ r) (suc left =? 0)
      (λ z _. absurd (omega (arith, eqb-true (suc left) 0 z))) (λ _ e. absurd (omega arith)))
      (λ _ e. stops _ _ r h (title_falls t _ r h e))

  only_falls :
      (t at lines : ℕ) (es : List Entry) {x : Structure} {gs : List Field} {k : ℕ} → TitleOnly t x gs k →
      Falls (on_table im extent most 0 t (came_to at lines es)) x (lines + k) (put es gs)
  only_falls t at lines es TitleOnly.first = deep_falls t at lines es

  table_over :
      (left t at lines : ℕ) (es : List Entry) {x : Structure} {gs : List Field} {k : ℕ} →
      SubFalls (on_table im extent most left) (Table im left) (InTable im left) → InTableOver im (Table im left) (InTable im left) (suc left) t x gs k →
      Takes extent most es gs → lines + k ≤ most_lines → Falls (on_table im extent most (suc left) t (came_to at lines es)) x (lines + k) (put es gs)
  unfolding on_table lines_of
  table_over left t at lines es go InTableOver.first u l = over_falls left t at lines es
  table_over left t at lines es go (InTableOver.lines end p x o y) u l = λ r pos e.
      let i = A.title_is x in
      let s : on_title im extent most t (came_to at lines es) ≡ came_to end lines es = title_goes im A extent most t at lines es i.refusal ∙ rw i.ends in
      let q : (title_at im t).line.0 ≡ p = omega (arith, (A.title_reads t i.refusal).line, i.ends, is_odd o) in
      let step : on_table im extent most (suc left) t (came_to at lines es)
      ≡ on_lines im extent most (on_table im extent most left) 0 0 (lines_from im (most_lines_of_table + 1) p) (came_to end lines es) =
      then_is (on_lines im extent most (on_table im extent most left) 0 0 (lines_from im (most_lines_of_table + 1) (title_at im t).line.0)) _ end lines es s ∙ rw q in
      ap (λ (z : State). refusal_number z.progress.refusal) step
      ∙ lines_fall (on_table im extent most left) (Table im left) (InTable im left) (table_goes im A extent most left) go y (most_lines_of_table + 1) lines es refl (omega arith) u l r pos e

  -- a structure that the walk comes to in a table gives its answer
  pub table_falls : (left : ℕ) → SubFalls (on_table im extent most left) (Table im left) (InTable im left)
  unfolding InTable
  table_falls zero = λ t at lines es x gs k y u l. only_falls t at lines es y
  table_falls (suc left) = λ t at lines es x gs k y u l. table_over left t at lines es (table_falls left) y u l
