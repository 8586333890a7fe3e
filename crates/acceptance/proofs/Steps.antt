-- A title, a line's head and a component by itself: the walk takes each exactly where the grammar has it.
use Prim.Native.Nat.{ℕ, ◌+◌, ◌<◌}
use mathlib.Core.Path.{◌≡◌, refl, sym, ap, ◌∙◌}
use mathlib.Core.Bool.{Bool, true, false, false≢true}
use mathlib.Core.List.{List, [], ◌∷◌, append-nil}
use native.Mathlib.Omega.{arith}
use lib.ListN.{length, length-append}
use borrow.Author.Tests.{leb-false, eqb-true, eqb-false, eq-eqb}
use Rattle.cmf.specs.Refusals.{refusal_number}
use Rattle.cmf.specs.declared.refusal.Refusal.TheVariants as fault
use Rattle.std.specs.Prelude.{None}
use Rattle.laws.specs.Choice.{when◌then◌else◌, ◌=?◌, ◌≤?◌}
use Rattle.laws.specs.Bytes.{byte_at}
use Rattle.laws.proofs.Cases.{if_ind, by_test, and_i, and_l, and_r, if_eq, if_ne, if_gt, if_true, if_false}
use Rattle.field.specs.declared.record.Field.{Field}
use Rattle.cmf.specs.Limits.{most_lines_of_table, most_lines}
use Rattle.cmf.specs.Readers.{odd_from, title_at, first_at, head_at, component_at}
use Rattle.cmf.specs.Layouts.{Aligned, Component}
use Rattle.cmf.specs.Grammar.{Head}
use Rattle.cmf.specs.Places.{held_by}
use Rattle.cmf.proofs.Agreement.{Agree, HeadReads, PlaceIs}
use Rattle.cmf.specs.declared.component.Component as read
use Rattle.acceptance.specs.declared.index.Entry.{Entry}
use Rattle.acceptance.specs.declared.progress.Progress.{Progress}
use Rattle.acceptance.specs.Check.{State, state, with, fine, stopped, read_to, padded, take_title, agrees, line_placed, count_line, take_line, entry_of, in_sheet, apart_from, take_field, take_component, on_title, on_head, on_component}
use Rattle.acceptance.proofs.CameTo.{came_to, put, code_refused, is_refused_lem}
use Rattle.acceptance.proofs.Takes.{Takes}

-- a place that follows another at once or after one zero byte
pub padded_is : (im : List ℕ) (at p : ℕ) → ((at ≡ p → ⊥) → byte_at im at ≡ 0) → padded im at p ≡ true
unfolding padded
padded_is im at p h = if_ind (λ (b : Bool). b ≡ true) (at =? p) (λ _. refl) (λ e. eq-eqb _ 0 (h (eqb-false at p e)))

pub padded_reads : (im : List ℕ) (at p : ℕ) → padded im at p ≡ true → (at ≡ p → ⊥) → byte_at im at ≡ 0
unfolding padded
padded_reads im at p =
    if_ind (λ (b : Bool). b ≡ true → (at ≡ p → ⊥) → byte_at im at ≡ 0) (at =? p)
    (λ e h n. absurd (n (eqb-true at p e))) (λ _ h n. eqb-true _ 0 h)

module _ (im : List ℕ) (A : Agree im) (extent most : ℕ) where
  -- ---- a title: taken where it reads without fault, and nowhere else

  pub title_goes : (t at lines : ℕ) (es : List Entry) → refusal_number (title_at im t).refusal ≡ 0 → on_title im extent most t (came_to at lines es) ≡ came_to (title_at im t).end lines es
  unfolding on_title take_title
  title_goes t at lines es z = ap (with (came_to at lines es)) (if_eq (refusal_number (title_at im t).refusal) 0 _ _ z)

  pub title_read : (t : ℕ) (s : State) → fine (on_title im extent most t s) ≡ true → refusal_number (title_at im t).refusal ≡ 0
  unfolding on_title take_title
  title_read t s =
      if_ind (λ (w : Progress). fine (with s w) ≡ true → refusal_number (title_at im t).refusal ≡ 0) (refusal_number (title_at im t).refusal =? 0)
      (λ e h. eqb-true _ 0 e) (λ e h. code_refused s (title_at im t).refusal e h)

  -- ---- a line's head

  -- what is known of a head that the walk takes
  pub record Headed (n before p at lines : ℕ) : Type 0 where
    pub refusal : refusal_number (head_at im p).refusal ≡ 0
    pub head : Head im n before p (head_at im p).end
    pub aligned : Aligned im 1 at p
    pub few : n < most_lines_of_table
    pub room : lines < most_lines

  -- R8: the marks of a head of the grammar agree with its place
  agrees_is : (n before p end : ℕ) → Head im n before p end → agrees im n before p ≡ true
  unfolding agrees
  agrees_is n before p end h =
      let i = A.head_is h in
      if_ind (λ (b : Bool). b ≡ true) (n =? 0) (λ e. i.first (eqb-true n 0 e))
      (λ e. let l : 0 < n = omega (arith, eqb-false n 0 e) in if_false _ _ (i.later l) ∙ eq-eqb _ p (i.back l))

  -- a head of the grammar is taken
  pub head_goes :
      (n before p end at lines : ℕ) (es : List Entry) → Head im n before p end → Aligned im 1 at p → n < most_lines_of_table → lines < most_lines →
      on_head im extent most n before p (came_to at lines es) ≡ came_to end (lines + 1) es
  unfolding on_head take_line line_placed count_line
  head_goes n before p end at lines es h a few room =
      let i = A.head_is h in
      let q = A.odd_is a in
      ap (with (came_to at lines es))
      (if_eq (refusal_number (head_at im p).refusal) 0 _ _ i.refusal
      ∙ if_true _ _ (and_i (eq-eqb p (odd_from at) q.is) (and_i (padded_is im at p q.zeroed) (agrees_is n before p end h)))
      ∙ if_gt most_lines_of_table n _ _ few ∙ if_gt most_lines lines _ _ room ∙ if_true _ _ i.good)
      ∙ ap (λ (x : ℕ). came_to x (lines + 1) es) i.ends

  module _ (n before p at lines : ℕ) (es : List Entry) where
    abbrev s : State
    s = came_to at lines es

    abbrev P : Progress → Type 0
    P w = fine (with s w) ≡ true → Headed n before p at lines

    agrees_read : (head_at im p).typeable ≡ true → HeadReads im p → agrees im n before p ≡ true → Head im n before p (head_at im p).end
    unfolding agrees
    agrees_read g r =
        if_ind (λ (b : Bool). b ≡ true → Head im n before p (head_at im p).end) (n =? 0)
        (λ e f. let z = eqb-true n 0 e in r.head g n before (λ _. f) (λ l. absurd (omega arith)) (λ l. omega arith))
        (λ e. let z = eqb-false n 0 e in
        if_ind (λ (b : Bool). b ≡ true → Head im n before p (head_at im p).end) (first_at im p)
        (λ _ f. absurd (false≢true f))
        (λ f b. r.head g n before (λ o. absurd (z o)) (λ l. f) (λ l. eqb-true _ p b)))

    placed_read : refusal_number (head_at im p).refusal ≡ 0 → line_placed im n before p s.progress ≡ true → P (count_line n (head_at im p) s.progress)
    unfolding line_placed count_line
    placed_read z e =
        let r = A.head_reads p z in
        let q : PlaceIs im at p (odd_from at) = record { is = eqb-true p (odd_from at) (and_l _ _ e); zeroed = padded_reads im at p (and_l _ _ (and_r _ _ e)) } in
        if_ind P (most_lines_of_table ≤? n) (λ _ h. is_refused_lem s fault.Limit h)
        (λ f. if_ind P (most_lines ≤? lines) (λ _ h. is_refused_lem s fault.Limit h)
        (λ l. if_ind P (head_at im p).typeable
        (λ g h. record {
          refusal = z;
          head = agrees_read g r (and_r _ _ (and_r _ _ e));
          aligned = A.odd_aligned at p q (omega (arith, r.after, r.inside));
          few = leb-false most_lines_of_table n f;
          room = leb-false most_lines lines l;
        })
        (λ _ h. is_refused_lem s fault.Setting h)))

    -- a head that the walk takes is the grammar's
    pub head_read : fine (on_head im extent most n before p s) ≡ true → Headed n before p at lines
    unfolding on_head take_line
    head_read =
        if_ind P (refusal_number (head_at im p).refusal =? 0)
        (λ e. if_ind P (line_placed im n before p s.progress) (λ f. placed_read (eqb-true _ 0 e) f) (λ _ h. is_refused_lem s fault.Form h))
        (λ e h. code_refused s (head_at im p).refusal e h)

  -- ---- a component

  -- a component without fault is taken with its field, if it is one
  part_goes :
      (c : read.Component) (p at lines : ℕ) (es : List Entry) → refusal_number c.refusal ≡ 0 → padded im at p ≡ true → Takes extent most es (held_by c) →
      take_component im extent most p c (came_to at lines es) ≡ came_to c.end lines (put es (held_by c))
  unfolding take_component take_field
  part_goes c p at lines es z d t =
      if_ne (refusal_number c.refusal) 6 _ _ (λ e. omega arith) ∙ if_true _ _ d ∙ by_test {A = chosen ≡ came_to c.end lines (put es (held_by c))} c.fielded field plain
    where
      s : State
      s = came_to at lines es

      go : Takes extent most es (c.field ∷ []) → take_field extent most c s ≡ came_to c.end lines (put es (c.field ∷ []))
      go (Takes.add a b f u) =
          if_gt most (length es) _ _ a ∙ if_eq (refusal_number c.refusal) 0 _ _ z ∙ if_true _ _ b ∙ if_true _ _ f
          ∙ ap (λ (k : ℕ). state (record { refusal = None; at = c.end; lines = lines; fields = k }) (put es (c.field ∷ []))) (sym (length-append es (entry_of c.field ∷ [])))

      chosen : State
      chosen =
          when c.fielded then take_field extent most c s
          else when refusal_number c.refusal =? 0 then with s (read_to s.progress c.end)
          else with s (stopped s.progress c.refusal)

      field : c.fielded ≡ true → chosen ≡ came_to c.end lines (put es (held_by c))
      field e = if_true _ _ e ∙ rw (if_true (c.field ∷ []) [] e) (go (rw (if_true (c.field ∷ []) [] e) at t))

      plain : c.fielded ≡ false → chosen ≡ came_to c.end lines (put es (held_by c))
      plain e = if_false _ _ e ∙ if_eq (refusal_number c.refusal) 0 _ _ z ∙ rw (if_false (c.field ∷ []) [] e, append-nil)

  -- a component of the grammar is taken
  pub component_goes :
      (p end at lines : ℕ) (es : List Entry) (fs : List Field) → Component im p end fs → Aligned im 0 at p → Takes extent most es fs →
      on_component im extent most p (came_to at lines es) ≡ came_to end lines (put es fs)
  unfolding on_component
  component_goes p end at lines es fs c a t =
      let i = A.component_is c in
      part_goes (component_at im p) p at lines es i.refusal (padded_is im at p (A.even_is a).zeroed) (rw i.fields t) ∙ rw (i.ends, i.fields)

  -- what is known of a component that the walk takes
  pub record Taken (p at : ℕ) (es : List Entry) : Type 0 where
    pub refusal : refusal_number (component_at im p).refusal ≡ 0
    pub padding : (at ≡ p → ⊥) → byte_at im at ≡ 0
    pub takes : Takes extent most es (held_by (component_at im p))

  module _ (p at lines : ℕ) (es : List Entry) where
    abbrev u : State
    u = came_to at lines es

    abbrev Q : State → Type 0
    Q r = fine r ≡ true → Taken p at es

    abbrev c : read.Component
    c = component_at im p

    field_read : padded im at p ≡ true → c.fielded ≡ true → Q (take_field extent most c u)
    unfolding take_field
    field_read d f =
        if_ind Q (most ≤? length es) (λ _ h. is_refused_lem u fault.Limit h)
        (λ k. if_ind Q (refusal_number c.refusal =? 0)
        (λ e. if_ind Q (in_sheet extent (entry_of c.field))
        (λ i. if_ind Q (apart_from (entry_of c.field) es)
        (λ a h. record {
          refusal = eqb-true _ 0 e;
          padding = padded_reads im at p d;
          takes = rw (if_true (c.field ∷ []) [] f) (Takes.add (leb-false most (length es) k) i a Takes.none);
        })
        (λ _ h. is_refused_lem u fault.Overlap h))
        (λ _ h. is_refused_lem u fault.Sheet h))
        (λ e h. code_refused u c.refusal e h))

    -- a component that the walk takes reads without fault, with its padding and its field
    pub component_read_lem : fine (on_component im extent most p u) ≡ true → Taken p at es
    unfolding on_component take_component
    component_read_lem =
        if_ind Q (refusal_number c.refusal =? 6) (λ _ h. is_refused_lem u fault.Cut h)
        (λ _. if_ind Q (padded im at p)
        (λ d. if_ind Q c.fielded (field_read d)
        (λ f. if_ind Q (refusal_number c.refusal =? 0)
        (λ e h. record { refusal = eqb-true _ 0 e; padding = padded_reads im at p d; takes = rw (if_false (c.field ∷ []) [] f) Takes.none })
        (λ e h. code_refused u c.refusal e h)))
        (λ _ h. is_refused_lem u fault.Form h))
