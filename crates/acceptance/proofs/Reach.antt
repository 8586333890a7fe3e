-- What navigation reaches from the top table is in the derivation, level by level: each line of a table reached reads without fault, its
-- fields are the image's, and its submenu is a table reached.
use Prim.Native.Nat.{ℕ, zero, suc, ◌+◌, ◌≤◌, ◌<◌}
use mathlib.Core.Path.{◌≡◌, refl, sym, ap, subst}
use mathlib.Core.Bool.{true, false}
use mathlib.Core.Logic.{◌⊎◌, inl, inr}
use mathlib.Core.List.Memᴰ
use mathlib.Core.List.{List, [], ◌∷◌, ◌++◌, Memᴰ}
use native.Mathlib.Omega.{arith}
use lib.ListN.{length}
use Rattle.cmf.specs.Refusals.{refusal_number}
use Rattle.laws.proofs.Cases.{if_true}
use Rattle.field.specs.declared.record.Field.{Field}
use Rattle.cmf.specs.Limits.{deepest_table, most_lines_of_table, prolog_bytes}
use Rattle.cmf.specs.Readers.{even_from, title_at, head_at, component_at}
use Rattle.cmf.specs.Places.{lines_from, lines_of, components_from, components_of, line_from, line_at, line_count}
use Rattle.cmf.specs.Layouts.{Component, Components}
use Rattle.cmf.specs.Grammar.{Head, Line, Lines, Table, WellFormed}
use Rattle.cmf.proofs.Agreement.{Agree}
use Rattle.acceptance.proofs.CameTo.{clash}
use Rattle.acceptance.proofs.Parts.{places_last, places_more, last_true, last_false, no_turns, turn}
use Rattle.acceptance.proofs.Line.{head_reads, last_marked, more_marked, plain_marked}
use Rattle.acceptance.proofs.Tables.{lines_last, lines_more, line_reads, first_line_lem}

-- every place has a line, were it a table's
pub some_line : (im : List ℕ) (t : ℕ) → 1 ≤ line_count im t
unfolding line_count lines_of lines_from
some_line im t = omega arith

-- ---- what is promised

-- a component: it reads without fault, and its field is one of the image's
pub record PartIn (im : List ℕ) (fields : List Field) (c : ℕ) : Type 0 where
  pub refusal : refusal_number (component_at im c).refusal ≡ 0
  pub known : (component_at im c).fielded ≡ true → Memᴰ (component_at im c).field fields

-- a line's components, in order: the last of the list has the mark of the last, and no other has it
pub data Chain (im : List ℕ) (fields : List Field) : List ℕ → Type 0 where
  last : {c : ℕ} → PartIn im fields c → (component_at im c).last ≡ true → Chain im fields (c ∷ [])
  more : {c : ℕ} {cs : List ℕ} → PartIn im fields c → (component_at im c).last ≡ false → Chain im fields cs → Chain im fields (c ∷ cs)

-- the table at t is in the derivation with so many levels left, its own among them, and its fields are among the image's
pub record Reached (im : List ℕ) (fields : List Field) (left t : ℕ) : Type 0 where
  pub own : List Field
  pub count : ℕ
  pub table : Table im left t own count
  pub is_in : (f : Field) → Memᴰ f own → Memᴰ f fields

-- a line: head and components read without fault, and its submenu, if any, is a table reached with a level less
pub record LineIn (im : List ℕ) (fields : List Field) (left p : ℕ) : Type 0 where
  pub refusal : refusal_number (head_at im p).refusal ≡ 0
  pub good : (head_at im p).typeable ≡ true
  pub parts : Chain im fields (components_of im p)
  pub below : (head_at im p).submenu ≡ true → Reached im fields left (head_at im p).table.0

-- each of a line's components
pub part_of : {im : List ℕ} {fields : List Field} {cs : List ℕ} → Chain im fields cs → (c : ℕ) → Memᴰ c cs → PartIn im fields c
part_of {im} {fields} (Chain.last i b) c m = subst (PartIn im fields) (sym (Memᴰ.eq_of_singleton m)) i
part_of {im} {fields} (Chain.more {c = d} {cs = cs} i b r) c m = go (Memᴰ.cases_cons m) (λ o. part_of r c o)
  where
    go : (c ≡ d) ⊎ Memᴰ c cs → (Memᴰ c cs → PartIn im fields c) → PartIn im fields c
    go (inl e) rest = subst (PartIn im fields) (sym e) i
    go (inr o) rest = rest o

-- the last of them
pub record Ended (im : List ℕ) (cs : List ℕ) : Type 0 where
  pub before : List ℕ
  pub final : ℕ
  pub all : cs ≡ before ++ (final ∷ [])
  pub last : (component_at im final).last ≡ true

pub chain_end : {im : List ℕ} {fields : List Field} {cs : List ℕ} → Chain im fields cs → Ended im cs
chain_end (Chain.last {c = c} i b) = record { before = []; final = c; all = refl; last = b }
chain_end (Chain.more {c = c} i b r) =
    let e = chain_end r in record { before = c ∷ e.before; final = e.final; all = ap (λ (xs : List ℕ). c ∷ xs) e.all; last = e.last }

module _ (im : List ℕ) (A : Agree im) (fields : List Field) where
  abbrev Among : List Field → Type 0
  Among fs = (f : Field) → Memᴰ f fs → Memᴰ f fields

  among_left : (fs gs : List Field) → Among (fs ++ gs) → Among fs
  among_left fs gs a f m = a f (Memᴰ.append_left gs m)

  among_right : (fs gs : List Field) → Among (fs ++ gs) → Among gs
  among_right fs gs a f m = a f (Memᴰ.append_right fs m)

  -- ---- components

  part_in : {p end : ℕ} {fs : List Field} → Component im p end fs → Among fs → PartIn im fields p
  part_in {p} x a =
      let i = A.component_is x in
      record {
        refusal = i.refusal;
        known = λ e.
            a (component_at im p).field
            (rw (← i.fields, if_true ((component_at im p).field ∷ []) [] e) (Memᴰ.head refl));
      }

  chain_here : (k c p : ℕ) → c ≡ p → PartIn im fields p → (component_at im p).last ≡ true → Chain im fields (components_from im (suc k) c)
  chain_here k c p q i b = rw (q, places_last im k p b) (Chain.last i b)

  chain_more :
      (k c p : ℕ) → c ≡ p → PartIn im fields p → (component_at im p).last ≡ false → Chain im fields (components_from im k (component_at im p).next.0) →
      Chain im fields (components_from im (suc k) c)
  chain_more k c p q i b d = rw (q, places_more im k p b) (Chain.more i b d)

  -- the components of the grammar are those of the list
  chain_of :
      {at end : ℕ} {fs : List Field} → Components im at end fs → (k c : ℕ) → c ≡ even_from at → length im + 1 < c + k → Among fs →
      Chain im fields (components_from im k c)
  chain_of (Components.last p a y l) zero c e h am = no_turns im A a y c e h
  chain_of (Components.last p a y l) (suc k) c e h am = chain_here k c p (turn im A a y k c e h).here (part_in y am) (last_true im A y l)
  chain_of (Components.more p mid a y l s) zero c e h am = no_turns im A a y c e h
  chain_of (Components.more {fs = fs} {gs = gs} p mid a y l s) (suc k) c e h am =
      let n = turn im A a y k c e h in
      chain_more k c p n.here (part_in y (among_left fs gs am)) (last_false im A y l)
      (chain_of s k (component_at im p).next.0 n.next n.enough (among_right fs gs am))

  -- ---- lines

  body_in :
      {n before p mid end : ℕ} {fs : List Field} (left : ℕ) → Head im n before p mid → Components im mid end fs → Among fs →
      ((head_at im p).submenu ≡ true → Reached im fields left (head_at im p).table.0) → LineIn im fields left p
  unfolding components_of
  body_in {p = p} {mid = mid} left h cs a s =
      let i = A.head_is h in
      let r = A.head_reads p i.refusal in
      let c : (head_at im p).component.0 ≡ even_from mid = omega (arith, r.component, i.ends) in
      record {
        refusal = i.refusal;
        good = i.good;
        parts = chain_of cs (length im + 1) (head_at im p).component.0 c (omega (arith, r.after, i.ends)) a;
        below = s;
      }

  line_in : {left n before p end k : ℕ} {fs : List Field} → Line im (Table im left) n before p end fs k → Among fs → LineIn im fields left p
  line_in {left} (Line.plain mid h cs b) a = body_in left h cs a (λ e. clash e (plain_marked im A (head_reads im A h) b))
  line_in {left} {p = p} (Line.submenu {fs = fs} {gs = gs} {k = k} mid h cs b s) a =
      body_in left h cs (among_left fs gs a)
      (λ e. record { own = gs; count = k; table = subst (λ (x : ℕ). Table im left x gs k) (sym (head_reads im A h).table) s; is_in = among_right fs gs a })

  -- each line of the list is a line of the grammar
  lines_in :
      {left n before p k : ℕ} {fs : List Field} → Lines im (Table im left) n before p fs k → (j : ℕ) → n + j ≡ most_lines_of_table + 1 → Among fs →
      (i : ℕ) → i < length (lines_from im j p) → LineIn im fields left (line_from im i p)
  unfolding line_from
  lines_in (Lines.last end few x b) zero e a i h = absurd (omega arith)
  lines_in (Lines.last end few x b) (suc j) e a zero h = line_in x a
  lines_in {p = p} (Lines.last end few x b) (suc j) e a (suc i) h =
      let l = rw (lines_last im j p (last_marked im A (line_reads im A x) b)) at h in absurd (omega arith)
  lines_in (Lines.more end few x b a' r) zero e a i h = absurd (omega arith)
  lines_in (Lines.more {fs = fs} {gs = gs} end few x b a' r) (suc j) e a zero h = line_in x (among_left fs gs a)
  lines_in {p = p} (Lines.more {fs = fs} {gs = gs} end few x b a' r) (suc j) e a (suc i) h =
      let q = line_reads im A x in
      let l = rw (lines_more im j p (more_marked im A q b), q.next) at h in
      rw q.next (lines_in r j (omega arith) (among_right fs gs a) i (omega arith))

  -- and they are few
  lines_few :
      {Sub : ℕ → List Field → ℕ → Type 0} {n before p k : ℕ} {fs : List Field} → Lines im Sub n before p fs k → (j : ℕ) → n + j ≡ most_lines_of_table + 1 →
      n + length (lines_from im j p) ≤ most_lines_of_table
  lines_few (Lines.last end few x b) zero e = absurd (omega arith)
  lines_few {p = p} (Lines.last end few x b) (suc j) e = rw (lines_last im j p (last_marked im A (line_reads im A x) b)) (omega arith)
  lines_few (Lines.more end few x b a r) zero e = absurd (omega arith)
  lines_few {p = p} (Lines.more end few x b a r) (suc j) e =
      let q = line_reads im A x in
      rw (lines_more im j p (more_marked im A q b), q.next) (omega (arith, lines_few r j (omega arith)))

  -- ---- tables

  -- a table reached has a title
  pub title_reached : (left t : ℕ) → Reached im fields (suc left) t → refusal_number (title_at im t).refusal ≡ 0
  unfolding Table
  title_reached left t r = (A.title_is r.table.title).refusal

  -- a table reached has at most 99 lines
  pub few_lines : (left t : ℕ) → Reached im fields (suc left) t → line_count im t ≤ most_lines_of_table
  unfolding Table line_count lines_of
  few_lines left t r =
      rw (first_line_lem im A r.table) (omega (arith, lines_few r.table.lines (most_lines_of_table + 1) refl))

  -- and each of them keeps the promise
  pub line_reached : (left t k : ℕ) → Reached im fields (suc left) t → k < line_count im t → LineIn im fields left (line_at im t k)
  unfolding Table line_count lines_of line_at
  line_reached left t k r h =
      let e = first_line_lem im A r.table in
      rw e (lines_in r.table.lines (most_lines_of_table + 1) refl r.is_in k (rw e at h))

-- the levels end at the eighth
pub no_levels : {X : Type 0} (im : List ℕ) (fields : List Field) (t : ℕ) → Reached im fields 0 t → X
unfolding Table
no_levels im fields t r = absurd r.table

-- the top table is reached
pub top_reached : (im : List ℕ) (extent : ℕ) (w : WellFormed im extent) → Reached im w.fields deepest_table prolog_bytes
top_reached im extent w = record { own = w.fields; count = w.lines; table = w.table; is_in = λ f m. m }
