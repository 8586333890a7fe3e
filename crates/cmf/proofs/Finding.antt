-- What is looked for along a table's lines and a line's components: one turn of each loop, and the ways out of it. A line is there as long
-- as the last of the table has not been passed.
use Prim.Native.Nat.{ℕ, zero, suc, ◌+◌, ◌-◌, ◌≤◌, ◌<◌}
use mathlib.Core.Path.{◌≡◌, sym, ap, ◌∙◌}
use mathlib.Core.Bool.{Bool, true, false}
use mathlib.Core.List.{List, []}
use native.Mathlib.Omega.{arith}
use lib.ListN.{length}
use borrow.Author.Tests.{lt-ltb, le-ltb, ltb-true, ltb-false}
use Rattle.laws.specs.Choice.{when◌then◌else◌, ◌<?◌}
use Rattle.laws.proofs.Cases.{by_test, if_ind, if_true, if_false, if_lt, if_ge, if_eq, if_ne}
use Rattle.field.specs.declared.kind.ImagePlace.{ImagePlace}
use Rattle.cmf.specs.Readers.{title_at, head_at, component_at}
use Rattle.cmf.specs.Places.{lines_from, lines_of, components_from, line_from, line_at, line_count, found_if, line_found, rest_of_line, first_editable, next_editable, is_in}
use Rattle.cmf.specs.declared.title.Title.{Title}
use Rattle.cmf.specs.declared.head.Head.{Head}
use Rattle.cmf.specs.declared.component.Component.{Component}
use Rattle.std.specs.Prelude.{Option}
use Rattle.std.specs.Prelude.{Some, None}
use Rattle.cmf.proofs.Turning.{line_turn}

-- what is found by a test, taken apart
pub found_none : {t : Bool} (p : ℕ) {f : Option ImagePlace} → f ≡ found_if t p → f ≡ None → t ≡ false
found_none {t} p {f} e n =
    by_test t (λ y. let z : ◌≡◌ {A = Option ImagePlace} None (Some (record { 0 = p })) = sym n ∙ e ∙ if_true _ _ y in absurd (no z)) (λ y. y)
  where
    no : ◌≡◌ {A = Option ImagePlace} None (Some (record { 0 = p })) → ⊥
    no z = let y : ◌≡◌ {A = ℕ} 0 1 = cc in omega arith

pub found_at : {t : Bool} {p : ℕ} {f : Option ImagePlace} (q : ImagePlace) → f ≡ found_if t p → f ≡ Some q → (t ≡ true) × (q.0 ≡ p)
found_at {t} {p} {f} q e n =
    by_test t (λ y. (y, let z : ◌≡◌ {A = Option ImagePlace} (Some q) (Some (record { 0 = p })) = sym n ∙ e ∙ if_true _ _ y in let w : ◌≡◌ {A = ImagePlace} q (record { 0 = p }) = cc in ap (λ (i : ImagePlace). i.0) w))
    (λ y. absurd (no (sym n ∙ e ∙ if_false _ _ y)))
  where
    no : ◌≡◌ {A = Option ImagePlace} (Some q) None → ⊥
    no z = let y : ◌≡◌ {A = ℕ} 0 1 = cc in omega arith

-- ---- lines

-- tests of two numbers that are below together
same_test : (a b x y : ℕ) → (a < x → b < y) → (b < y → a < x) → (a <? x) ≡ (b <? y)
same_test a b x y f g =
    by_test (b <? y) (λ e. lt-ltb a x (g (ltb-true b y e)) ∙ sym e) (λ e. le-ltb a x (by_test (a <? x) (λ q. absurd (omega (arith, ltb-false b y e, f (ltb-true a x q)))) (λ q. ltb-false a x q)) ∙ sym e)

-- a table has at most a hundred lines to look for
lines_up_to : (im : List ℕ) (k p : ℕ) → length (lines_from im k p) ≤ k
unfolding lines_from
lines_up_to im zero p = omega arith
lines_up_to im (suc k) p =
    if_ind (λ (l : List ℕ). suc (length l) ≤ suc k) (head_at im p).last (λ _. omega arith)
    (λ _. omega (arith, lines_up_to im k (head_at im p).next.0))

pub lines_few : (im : List ℕ) (t : ℕ) → line_count im t ≤ 100
unfolding line_count lines_of
lines_few im t = lines_up_to im 100 _

module _ (im : List ℕ) where
  -- the line that is so many lines further on from p, where m of them at least are looked for after it
  abbrev pub ahead : ℕ → ℕ → ℕ → Option ImagePlace
  ahead m left p = found_if (left <? length (lines_from im (m + left) p)) (line_from im left p)

  -- no table has a line so far down
  pub reach_far : (t k : ℕ) → 99 < k → None ≡ line_found im t k
  reach_far t k h = sym (if_ge k (line_count im t) _ _ (omega (arith, lines_few im t)))

  module _ (m left p : ℕ) (h : Head) (l : 0 < left) (e : h ≡ head_at im p) where
    lines_one : length (lines_from im (m + left) p) ≡ suc (length (when h.last then [] else lines_from im (m + (left - 1)) h.next.0))
    unfolding lines_from
    lines_one = let z : m + left ≡ suc (m + (left - 1)) = omega arith in rw (z, e)

    -- the last line comes before the one that is looked for
    pub reach_last : h.last ≡ true → ahead m left p ≡ None
    reach_last t =
        let o = lines_one ∙ ap (λ (ps : List ℕ). suc (length ps)) (if_true [] (lines_from im (m + (left - 1)) h.next.0) t) in
        if_ge left (length (lines_from im (m + left) p)) _ _ (omega arith)

    pub reach_next : h.last ≡ false → ahead m (left - 1) h.next.0 ≡ ahead m left p
    reach_next t =
        let o = lines_one ∙ ap (λ (ps : List ℕ). suc (length ps)) (if_false [] (lines_from im (m + (left - 1)) h.next.0) t) in
        rw (
          same_test (left - 1) left (length (lines_from im (m + (left - 1)) h.next.0)) (length (lines_from im (m + left) p)) (λ q. omega arith) (λ q. omega arith),
          line_turn im left p h.next.0 l (ap (λ (x : Head). x.next.0) e),
        )

  pub reach_here : (m left p : ℕ) → 0 < m → left ≤ 0 → ahead m left p ≡ Some (record { 0 = p })
  unfolding lines_from line_from
  reach_here m left p h l =
      let z : left ≡ 0 = omega arith in
      let y : m + left ≡ suc (m - 1) = omega arith in
      rw (y, z) (if_lt 0 (suc (length (when (head_at im p).last then [] else lines_from im (m - 1) (head_at im p).next.0))) _ _ (omega arith))

  -- from the table's first line on
  pub reach_first : (t k : ℕ) (h : Title) → h ≡ title_at im t → k ≤ 99 → ahead (100 - k) k h.line.0 ≡ line_found im t k
  unfolding line_count lines_of line_at
  reach_first t k h e l = let z : 100 - k + k ≡ 100 = omega arith in rw (z, e)

-- ---- components

module _ (im : List ℕ) where
  module _ (left p : ℕ) (c : Component) (h : 0 < left) (e : c ≡ component_at im p) where
    editable_one : first_editable im (components_from im left p)
        ≡ (when c.editable then Some (record { 0 = p }) else first_editable im (when c.last then [] else components_from im (left - 1) c.next.0))
    unfolding first_editable components_from
    editable_one = let z : left ≡ suc (left - 1) = omega arith in ap (λ (n : ℕ). first_editable im (components_from im n p)) z ∙ rw e

    pub editable_here : c.editable ≡ true → first_editable im (components_from im left p) ≡ Some (record { 0 = p })
    editable_here t = editable_one ∙ if_true _ _ t

    pub editable_last : c.editable ≡ false → c.last ≡ true → first_editable im (components_from im left p) ≡ None
    unfolding first_editable
    editable_last t l = editable_one ∙ if_false _ _ t ∙ ap (λ (r : List ℕ). first_editable im r) (if_true _ _ l)

    pub editable_next : c.editable ≡ false → c.last ≡ false
        → first_editable im (components_from im (left - 1) c.next.0) ≡ first_editable im (components_from im left p)
    editable_next t l = sym (editable_one ∙ if_false _ _ t ∙ ap (λ (r : List ℕ). first_editable im r) (if_false _ _ l))

  pub editable_done : (left p : ℕ) → left ≤ 0 → first_editable im (components_from im left p) ≡ None
  unfolding first_editable components_from
  editable_done left p h = let z : left ≡ 0 = omega arith in rw z

  module _ (p : ℕ) (c : Component) (e : c ≡ component_at im p) where
    pub next_none : c.last ≡ true → None ≡ next_editable im p
    unfolding next_editable
    next_none h = sym (rw (← e) (if_true _ _ h))

    pub next_found : (f : Option ImagePlace) → c.last ≡ false → f ≡ first_editable im (rest_of_line im c.next.0) → f ≡ next_editable im p
    unfolding next_editable
    next_found f h g = g ∙ sym (rw (← e) (if_false _ _ h))

-- ---- a component of a line

module _ (im : List ℕ) (p : ℕ) where
  pub in_here : (left c : ℕ) → 0 < left → c ≡ p → is_in p (components_from im left c) ≡ true
  unfolding is_in components_from
  in_here zero c h e = absurd (omega arith)
  in_here (suc n) c h e = if_eq c p _ _ e

  in_one : (left c : ℕ) (k : Component) → 0 < left → (c ≡ p → ⊥) → k ≡ component_at im c
      → is_in p (components_from im left c) ≡ is_in p (when k.last then [] else components_from im (left - 1) k.next.0)
  unfolding is_in components_from
  in_one zero c k h n e = absurd (omega arith)
  in_one (suc m) c k h n e = let z : suc m - 1 ≡ m = omega arith in if_ne c p _ _ n ∙ rw (z, e)

  pub in_last : (left c : ℕ) (k : Component) → 0 < left → (c ≡ p → ⊥) → k ≡ component_at im c → k.last ≡ true
      → is_in p (components_from im left c) ≡ false
  unfolding is_in when◌then◌else◌
  in_last left c k h n e l = in_one left c k h n e ∙ rw l

  pub in_next : (left c : ℕ) (k : Component) → 0 < left → (c ≡ p → ⊥) → k ≡ component_at im c → k.last ≡ false
      → is_in p (components_from im (left - 1) k.next.0) ≡ is_in p (components_from im left c)
  unfolding when◌then◌else◌
  in_next left c k h n e l = sym (in_one left c k h n e ∙ rw l)

  pub in_done : (left c : ℕ) → left ≤ 0 → is_in p (components_from im left c) ≡ false
  unfolding is_in components_from
  in_done left c h = let z : left ≡ 0 = omega arith in rw z
