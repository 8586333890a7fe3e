-- The definition of the check, one step at a time, in the shape in which the code has its facts: over variables whose premises are what
-- the callees ensure. The code's index has a length of its own at each call; `k ≡ most` says that it is the same.
use Prim.Native.Nat.{ℕ, zero, suc, ◌+◌, ◌-◌, ◌*◌, ◌≤◌, ◌<◌}
use mathlib.Core.Path.{◌≡◌, refl, sym, ap, ◌∙◌}
use mathlib.Core.Bool.{Bool, true, false}
use mathlib.Core.List.{List, [], ◌∷◌, ◌++◌}
use native.Mathlib.Omega.{arith}
use lib.ListN.{length, get_or, set, length-set}
use lib.Seq.{get_or-set_same, get_or-set_other}
use lib.Dec.{eqb, leb}
use borrow.Author.Tests.{eq-eqb, ne_eqb, le-leb, lt-leb, eqb-true, eqb-false, leb-true, leb-false}
use Rattle.cmf.specs.Refusals.{refusal_number}
use Rattle.cmf.specs.declared.refusal.Refusal.TheVariants as fault
use Rattle.laws.specs.Choice.{when◌then◌else◌, ◌and◌}
use Rattle.laws.proofs.Cases.{by_test, if_ind, if_eq, if_ne, if_lt, and_i, and_false}
use Rattle.cmf.specs.Readers.{title_at, head_at, component_at}
use Rattle.cmf.specs.Places.{lines_from, lines_of, components_from, components_of}
use Rattle.cmf.specs.declared.title.Title.{Title}
use Rattle.cmf.specs.declared.head.Head.{Head}
use Rattle.cmf.specs.declared.component.Component.{Component}
use Rattle.acceptance.specs.Check.{State, state, fine, refused, past_line, and_then, take_title, count_line, take_line, apart, apart_from, take_component, on_component, on_components, on_head, on_title, on_submenu, on_body, on_line, on_lines, on_table}
use Rattle.acceptance.specs.Index.{capacity, entry_at, listed, with_entry, seen}
use Rattle.acceptance.specs.declared.index.Entry.{Entry}
use Rattle.acceptance.specs.declared.progress.Progress.{Progress}

-- ---- tests without a sum that could wrap

pub same_test : (b x p : ℕ) → x ≤ p → eqb b (p - x) ≡ eqb (x + b) p
same_test b x p h =
    by_test (eqb (x + b) p)
    (λ e. let q = eqb-true (x + b) p e in eq-eqb b (p - x) (omega arith) ∙ sym e)
    (λ e. let q = eqb-false (x + b) p e in ne_eqb b (p - x) (λ z. q (omega arith)) ∙ sym e)

pub no_test : (b x p : ℕ) → p < x → false ≡ eqb (x + b) p
no_test b x p h = sym (ne_eqb (x + b) p (λ z. omega arith))

pub ends_test : (f n at : ℕ) → n ≤ at → leb f (at - n) ≡ leb (f + n) at
ends_test f n at h =
    by_test (leb (f + n) at)
    (λ e. let q = leb-true (f + n) at e in le-leb f (at - n) (omega arith) ∙ sym e)
    (λ e. let q = leb-false (f + n) at e in lt-leb f (at - n) (omega arith) ∙ sym e)

-- ---- the index

-- the entry that was set, and those before it
module _ (xs : List ℕ) (k : ℕ) (e : Entry) (h : k < capacity xs) where
  abbrev new : List ℕ
  new = set (set (set xs (3 * k) e.place.0) (3 * k + 1) e.from.0) (3 * k + 2) e.size

  is_new : with_entry xs k e ≡ new
  unfolding with_entry
  is_new = if_lt k (capacity xs) _ _ h

  same_capacity : capacity new ≡ capacity xs
  same_capacity = simp length-set

  entry_new : entry_at new k ≡ e
  unfolding entry_at
  entry_new =
      let a : k < capacity new = rw same_capacity h in
      if_lt k (capacity new) _ _ a
      ∙ rw (
        get_or-set_other (set (set xs (3 * k) e.place.0) (3 * k + 1) e.from.0) (3 * k + 2) (3 * k) e.size 0 (λ q. omega arith),
        get_or-set_other (set xs (3 * k) e.place.0) (3 * k + 1) (3 * k) e.from.0 0 (λ q. omega arith),
        get_or-set_same xs (3 * k) e.place.0 0 (omega arith),
        get_or-set_other (set (set xs (3 * k) e.place.0) (3 * k + 1) e.from.0) (3 * k + 2) (3 * k + 1) e.size 0 (λ q. omega arith),
        get_or-set_same (set xs (3 * k) e.place.0) (3 * k + 1) e.from.0 0 (simp length-set (omega arith)),
        get_or-set_same (set (set xs (3 * k) e.place.0) (3 * k + 1) e.from.0) (3 * k + 2) e.size 0 (simp length-set (omega arith)),
      )

  far : (i j : ℕ) → i < k → j < 3 → get_or new (3 * i + j) 0 ≡ get_or xs (3 * i + j) 0
  far i j a b =
      rw (
        get_or-set_other (set (set xs (3 * k) e.place.0) (3 * k + 1) e.from.0) (3 * k + 2) (3 * i + j) e.size 0 (λ q. omega arith),
        get_or-set_other (set xs (3 * k) e.place.0) (3 * k + 1) (3 * i + j) e.from.0 0 (λ q. omega arith),
        get_or-set_other xs (3 * k) (3 * i + j) e.place.0 0 (λ q. omega arith),
      )

  entry_old : (i : ℕ) → i < k → entry_at new i ≡ entry_at xs i
  unfolding entry_at
  entry_old i a =
      let b : i < capacity new = rw same_capacity (omega arith) in
      let z : 3 * i + 0 ≡ 3 * i = omega arith in
      let f : get_or new (3 * i) 0 ≡ get_or xs (3 * i) 0 = rw z at (far i 0 a (omega arith)) in
      if_lt i (capacity new) _ _ b
      ∙ rw (f, far i 1 a (omega arith), far i 2 a (omega arith)) (sym (if_lt i (capacity xs) _ _ (omega arith)))

  listed_old : (i : ℕ) → i ≤ k → listed new i ≡ listed xs i
  unfolding listed
  listed_old zero a = refl
  listed_old (suc i) a = rw (listed_old i (omega arith), entry_old i (omega arith))

  pub listed_new : listed (with_entry xs k e) (k + 1) ≡ listed xs k ++ (e ∷ [])
  unfolding listed
  listed_new =
      let z : k + 1 ≡ suc k = omega arith in
      rw (is_new, z, listed_old k (omega arith), entry_new)

-- ---- apart from the entries so far

apart_snoc : (e : Entry) (es : List Entry) (f : Entry) → apart_from e (es ++ (f ∷ [])) ≡ apart_from e es and apart e f
unfolding apart_from ◌and◌
apart_snoc e [] f = one (apart e f)
  where
    one : (b : Bool) → b and true ≡ true and b
    one true = refl
    one false = refl
apart_snoc e (g ∷ es) f = rw (apart_snoc e es f) (join (apart e g) (apart_from e es) (apart e f))
  where
    join : (a b c : Bool) → a and (b and c) ≡ (a and b) and c
    join true b c = refl
    join false b c = refl

and_none : (t : Bool) → t and false ≡ false
unfolding ◌and◌
and_none true = refl
and_none false = refl

module _ (e : Entry) (xs : List ℕ) (i : ℕ) where
  pub apart_next : apart_from e (listed xs i) ≡ true → apart e (entry_at xs i) ≡ true → apart_from e (listed xs (i + 1)) ≡ true
  unfolding listed
  apart_next a b = let z : i + 1 ≡ suc i = omega arith in rw (z, apart_snoc e (listed xs i) (entry_at xs i)) (and_i a b)

  one_bad : (k : ℕ) → apart e (entry_at xs i) ≡ false → apart_from e (listed xs (k + suc i)) ≡ false
  unfolding listed
  one_bad zero b =
      let z : 0 + suc i ≡ suc i = omega arith in
      rw (z, apart_snoc e (listed xs i) (entry_at xs i), b) (and_none (apart_from e (listed xs i)))
  one_bad (suc k) b =
      let z : suc k + suc i ≡ suc (k + suc i) = omega arith in
      rw (z, apart_snoc e (listed xs (k + suc i)) (entry_at xs (k + suc i)), one_bad k b) (and_false _ refl)

  pub apart_bad : (k : ℕ) → i < k → apart e (entry_at xs i) ≡ false → apart_from e (listed xs k) ≡ false
  apart_bad k h b = let z : k ≡ (k - suc i) + suc i = omega arith in rw z (one_bad (k - suc i) b)

-- ---- the walk's state

module _ (x y : State) where
  pub then_no : (refusal_number x.progress.refusal ≡ 0 → ⊥) → and_then x y ≡ x
  unfolding and_then fine
  then_no h = if_ne _ 0 _ _ h

  pub then_yes : refusal_number x.progress.refusal ≡ 0 → and_then x y ≡ y
  unfolding and_then fine
  then_yes h = if_eq _ 0 _ _ h

-- a head or a title leaves the count of fields
count_fields : (n : ℕ) (h : Head) (w : Progress) → (count_line n h w).fields ≡ w.fields
unfolding count_line
count_fields n h w = if_ind P _ (λ _. refl) (λ _. if_ind P _ (λ _. refl) (λ _. if_ind P h.typeable (λ _. refl) (λ _. refl)))
  where
    P : Progress → Type 0
    P r = r.fields ≡ w.fields

pub line_fields : (im : List ℕ) (n before p : ℕ) (h : Head) (w : Progress) → (take_line im n before p h w).fields ≡ w.fields
unfolding take_line
line_fields im n before p h w = if_ind P _ (λ _. if_ind P _ (λ _. count_fields n h w) (λ _. refl)) (λ _. refl)
  where
    P : Progress → Type 0
    P r = r.fields ≡ w.fields

pub title_fields : (t : Title) (w : Progress) → (take_title t w).fields ≡ w.fields
unfolding take_title
title_fields t w = if_ind (λ (r : Progress). r.fields ≡ w.fields) _ (λ _. refl) (λ _. refl)

pos_suc : (n : ℕ) → 0 < n → suc (n - 1) ≡ n
pos_suc n h = omega arith

hundred : (n : ℕ) → n < 100 → 100 - n ≡ suc (100 - (n + 1))
hundred n h = omega arith

module _ (im : List ℕ) (extent : ℕ) where
  -- ---- components

  module _
      (most k left p : ℕ) (s t : State) (c : Component) (h : 0 < left) (z : k ≡ most) (e : c ≡ component_at im p) (f : t ≡ take_component im extent k p c s) where
    components_one : on_components im extent most (components_from im left p) s
        ≡ and_then t (on_components im extent most (when c.last then [] else components_from im (left - 1) c.next.0) t)
    unfolding components_from on_components on_component
    components_one =
        let g : t ≡ take_component im extent most p c s = f ∙ ap (λ (j : ℕ). take_component im extent j p c s) z in
        ap (λ (n : ℕ). on_components im extent most (components_from im n p) s) (sym (pos_suc left h)) ∙ simp (← e, ← g)

    pub components_stop : (refusal_number t.progress.refusal ≡ 0 → ⊥) → on_components im extent most (components_from im left p) s ≡ t
    components_stop n = components_one ∙ then_no _ _ n

    pub components_last : refusal_number t.progress.refusal ≡ 0 → c.last ≡ true → on_components im extent most (components_from im left p) s ≡ t
    unfolding on_components when◌then◌else◌
    components_last y l = components_one ∙ then_yes _ _ y ∙ rw l

    pub components_next : refusal_number t.progress.refusal ≡ 0 → c.last ≡ false
        → on_components im extent most (components_from im left p) s ≡ on_components im extent most (components_from im (left - 1) c.next.0) t
    unfolding when◌then◌else◌
    components_next y l = components_one ∙ then_yes _ _ y ∙ rw l

  pub components_done : (most left p : ℕ) (s : State) → left ≤ 0 → on_components im extent most (components_from im left p) s ≡ s
  unfolding on_components components_from
  components_done most left p s h = let e : left ≡ 0 = omega arith in rw e

  -- ---- a line

  module _
      (most below n before p : ℕ) (w v : Progress) (xs : List ℕ) (h : Head) (e : h ≡ head_at im p) (f : v ≡ take_line im n before p h w) where
    abbrev line : State
    line = on_line im extent most (on_table im extent most below) n before p (seen w xs)

    headed : seen v xs ≡ on_head im extent most n before p (seen w xs)
    unfolding on_head
    headed =
        let g : v.fields ≡ w.fields = ap (λ (r : Progress). r.fields) f ∙ line_fields im n before p h w in
        ap (λ (j : ℕ). state v (listed xs j)) g
        ∙ ap (λ (r : Progress). state r (listed xs w.fields)) (f ∙ ap (λ (k : Head). take_line im n before p k w) e)

    pub line_stop : (refusal_number v.refusal ≡ 0 → ⊥) → seen v xs ≡ line
    unfolding on_line
    line_stop b = sym (rw (← headed) (then_no (seen v xs) _ b))

    line_body : refusal_number v.refusal ≡ 0 → line ≡ on_body im extent most (on_table im extent most below) p (seen v xs)
    unfolding on_line
    line_body y = rw (← headed) (then_yes (seen v xs) _ y)

    module _
        (y : refusal_number v.refusal ≡ 0) (q : State)
        (g : q ≡ on_components im extent most (components_from im (length im + 1) h.component.0) (seen v xs)) where
      walked : q ≡ on_components im extent most (components_of im p) (seen v xs)
      unfolding components_of
      walked = g ∙ ap (λ (k : Head). on_components im extent most (components_from im (length im + 1) k.component.0) (seen v xs)) e

      pub line_bad : (refusal_number q.progress.refusal ≡ 0 → ⊥) → q ≡ line
      unfolding on_body
      line_bad b = sym (line_body y ∙ rw (← walked) (then_no q _ b))

      line_submenu : refusal_number q.progress.refusal ≡ 0 → line ≡ on_submenu im extent most (on_table im extent most below) h q
      unfolding on_body
      line_submenu a = line_body y ∙ rw (← walked, ← e) (then_yes q _ a)

      pub line_plain : refusal_number q.progress.refusal ≡ 0 → h.submenu ≡ false → q ≡ line
      unfolding on_submenu when◌then◌else◌
      line_plain a b = sym (line_submenu a ∙ rw b)

      pub line_deep : (k : ℕ) (t r : Progress) (ys : List ℕ) → k ≡ most → refusal_number q.progress.refusal ≡ 0 → h.submenu ≡ true
          → seen t ys ≡ on_table im extent k below h.table.0 q → r ≡ past_line t q.progress.at → seen r ys ≡ line
      unfolding on_submenu when◌then◌else◌
      line_deep k t r ys z a b u i =
          let d : seen t ys ≡ on_table im extent most below h.table.0 q = u ∙ ap (λ (j : ℕ). on_table im extent j below h.table.0 q) z in
          rw i (sym (line_submenu a ∙ rw (b, ← d)))

  -- ---- a table

  lines_here : (n p : ℕ) (h : Head) → n < 100 → h ≡ head_at im p
      → lines_from im (100 - n) p ≡ p ∷ (when h.last then [] else lines_from im (100 - (n + 1)) h.next.0)
  unfolding lines_from
  lines_here n p h l e =
      ap (λ (k : ℕ). lines_from im k p) (hundred n l)
      ∙ ap (λ (g : Head). p ∷ (when g.last then [] else lines_from im (100 - (n + 1)) g.next.0)) (sym e)

  module _
      (most k below n before p : ℕ) (s t : State) (l : n < 100) (z : k ≡ most) (f : t ≡ on_line im extent k (on_table im extent k below) n before p s) where
    abbrev rest : State
    rest = on_lines im extent most (on_table im extent most below) n before (lines_from im (100 - n) p) s

    lines_one : (h : Head) → h ≡ head_at im p
        → rest ≡ and_then t (on_lines im extent most (on_table im extent most below) (n + 1) p (when h.last then [] else lines_from im (100 - (n + 1)) h.next.0) t)
    unfolding on_lines
    lines_one h e =
        let g : t ≡ on_line im extent most (on_table im extent most below) n before p s = f ∙ ap (λ (j : ℕ). on_line im extent j (on_table im extent j below) n before p s) z in
        ap (λ (ps : List ℕ). on_lines im extent most (on_table im extent most below) n before ps s) (lines_here n p h l e) ∙ simp (← g)

    pub lines_stop : (refusal_number t.progress.refusal ≡ 0 → ⊥) → rest ≡ t
    lines_stop b = lines_one (head_at im p) refl ∙ then_no _ _ b

    pub lines_last : (h : Head) → h ≡ head_at im p → refusal_number t.progress.refusal ≡ 0 → h.last ≡ true → rest ≡ t
    unfolding on_lines when◌then◌else◌
    lines_last h e y a = lines_one h e ∙ then_yes _ _ y ∙ rw a

    pub lines_next : (h : Head) → h ≡ head_at im p → refusal_number t.progress.refusal ≡ 0 → h.last ≡ false
        → rest ≡ on_lines im extent most (on_table im extent most below) (n + 1) p (lines_from im (100 - (n + 1)) h.next.0) t
    unfolding when◌then◌else◌
    lines_next h e y a = lines_one h e ∙ then_yes _ _ y ∙ rw a

  pub lines_done : (most below n before p : ℕ) (s : State) → 100 ≤ n
      → on_lines im extent most (on_table im extent most below) n before (lines_from im (100 - n) p) s ≡ s
  unfolding on_lines lines_from
  lines_done most below n before p s h = let e : 100 - n ≡ 0 = omega arith in rw e

  module _ (most left at : ℕ) (w v : Progress) (xs : List ℕ) (t : Title) (e : t ≡ title_at im at) (f : v ≡ take_title t w) where
    entered : seen v xs ≡ on_title im extent most at (seen w xs)
    unfolding on_title
    entered =
        let g : v.fields ≡ w.fields = ap (λ (r : Progress). r.fields) f ∙ title_fields t w in
        ap (λ (j : ℕ). state v (listed xs j)) g
        ∙ ap (λ (r : Progress). state r (listed xs w.fields)) (f ∙ ap (λ (k : Title). take_title k w) e)

    stop_by : (d : ℕ) → (refusal_number v.refusal ≡ 0 → ⊥) → seen v xs ≡ on_table im extent most d at (seen w xs)
    unfolding on_table
    stop_by zero b = sym (rw (← entered) (then_no (seen v xs) _ b))
    stop_by (suc d) b = sym (rw (← entered) (then_no (seen v xs) _ b))

    pub table_stop : (refusal_number v.refusal ≡ 0 → ⊥) → seen v xs ≡ on_table im extent most left at (seen w xs)
    table_stop b = stop_by left b

    pub table_deep : (r : Progress) → refusal_number v.refusal ≡ 0 → left ≡ 0 → r ≡ refused v fault.Limit → seen r xs ≡ on_table im extent most left at (seen w xs)
    unfolding on_table
    table_deep r y z i = rw (z, i) (sym (rw (← entered) (then_yes (seen v xs) _ y)))

    pub table_lines : refusal_number v.refusal ≡ 0 → (left ≡ 0 → ⊥)
        → on_table im extent most left at (seen w xs)
        ≡ on_lines im extent most (on_table im extent most (left - 1)) 0 0 (lines_from im 100 t.line.0) (seen v xs)
    unfolding on_table lines_of
    table_lines y z =
        let k : left ≡ suc (left - 1) = omega arith in
        ap (λ (j : ℕ). on_table im extent most j at (seen w xs)) k ∙ rw (← entered, ← e) (then_yes (seen v xs) _ y)
