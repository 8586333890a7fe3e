-- The lines of the shown table as far as they are looked at: the count is right up to the line after the last one seen, and so is the mark of more lines.
use Prim.Native.Nat.{ℕ, zero, suc, ◌+◌, ◌≤◌, ◌<◌, min}
use mathlib.Core.Path.{◌≡◌, refl, sym, ap, ◌∙◌}
use mathlib.Core.Bool.{Bool, true, false}
use mathlib.Core.List.{List, []}
use native.Mathlib.Omega.{arith}
use lib.ListN.{length}
use borrow.Author.Tests.{lt-ltb, le-ltb, le-leb, lt-leb, eq-eqb, ne_eqb, ltb-true, ltb-false, leb-true, leb-false, eqb-true, eqb-false}
use Rattle.laws.specs.Choice.{when◌then◌else◌, ◌=?◌, ◌<?◌, ◌≤?◌}
use Rattle.laws.proofs.Cases.{if_ind, if_true, if_false, by_test}
use Rattle.cmf.specs.Limits.{most_lines_of_table}
use Rattle.cmf.specs.Readers.{title_at, head_at}
use Rattle.cmf.specs.Places.{lines_from, lines_of, line_from, line_at, line_count}
use Rattle.cmf.specs.declared.head.Head.{Head}
use Rattle.cmf.proofs.Finding.{lines_few}
use Rattle.session.specs.declared.session.Session.{Session}
use Rattle.picture.specs.Rows.{more_mark, row_at}

-- ---- tests of a count that is cut

test_known : (count n k : ℕ) → count ≡ min (k + 1) n → (k <? count) ≡ (k <? n)
test_known count n k e =
    by_test (k <? n) (λ h. lt-ltb k count (omega (arith, ltb-true k n h)) ∙ sym h) (λ h. le-ltb k count (omega (arith, ltb-false k n h)) ∙ sym h)

pub row_known : (im sheet : List ℕ) (s : Session) (count n k p : ℕ) → count ≡ min (k + 1) n → row_at im sheet s count k p ≡ row_at im sheet s n k p
unfolding row_at
row_known im sheet s count n k p e = rw (test_known count n k e)

pub mark_known : (count n rows k cursor : ℕ) → count ≡ min (k + 1) n → rows ≤ k → cursor < k → more_mark count rows cursor ≡ more_mark n rows cursor
unfolding more_mark
mark_known count n rows k cursor e r c = rw (all, last)
  where
    all : (count ≤? rows) ≡ (n ≤? rows)
    all = by_test (n ≤? rows) (λ h. le-leb count rows (omega (arith, leb-true n rows h)) ∙ sym h) (λ h. lt-leb count rows (omega (arith, leb-false n rows h)) ∙ sym h)

    last : (cursor + 1 =? count) ≡ (cursor + 1 =? n)
    last =
        by_test (cursor + 1 =? n) (λ h. eq-eqb (cursor + 1) count (omega (arith, eqb-true (cursor + 1) n h)) ∙ sym h)
        (λ h. ne_eqb (cursor + 1) count (λ q. eqb-false (cursor + 1) n h (omega arith)) ∙ sym h)

-- ---- the next line

module _ (im : List ℕ) where
  lines_some : (n p : ℕ) → 0 < n → 0 < length (lines_from im n p)
  unfolding lines_from
  lines_some zero p h = absurd (omega arith)
  lines_some (suc n) p h = omega arith

  lines_none : (k p : ℕ) → k < length (lines_from im 0 p) → ⊥
  unfolding lines_from
  lines_none k p h = omega arith

  lines_end : (n p : ℕ) → (head_at im p).last ≡ true → length (lines_from im (suc n) p) ≡ 1
  unfolding lines_from
  lines_end n p t = ap (λ (ps : List ℕ). suc (length ps)) (if_true [] (lines_from im n (head_at im p).next.0) t)

  lines_more : (n p : ℕ) → (head_at im p).last ≡ false → length (lines_from im (suc n) p) ≡ suc (length (lines_from im n (head_at im p).next.0))
  unfolding lines_from
  lines_more n p t = ap (λ (ps : List ℕ). suc (length ps)) (if_false [] (lines_from im n (head_at im p).next.0) t)

  -- line k is the last: there are k + 1
  at_last : (n k p : ℕ) → k < length (lines_from im n p) → (head_at im (line_from im k p)).last ≡ true → length (lines_from im n p) ≡ k + 1
  unfolding line_from
  at_last zero k p h t = absurd (lines_none k p h)
  at_last (suc n) zero p h t = lines_end n p t
  at_last (suc n) (suc k) p h t =
      by_test (head_at im p).last (λ e. absurd (omega (arith, lines_end n p e)))
      (λ e. let o = lines_more n p e in omega (arith, at_last n k (head_at im p).next.0 (omega arith) t))

  -- line k is not, and more may be looked for: there is another
  at_more : (n k p : ℕ) → k < length (lines_from im n p) → (head_at im (line_from im k p)).last ≡ false → k + 1 < n → k + 1 < length (lines_from im n p)
  unfolding line_from
  at_more zero k p h t l = absurd (omega arith)
  at_more (suc n) zero p h t l = omega (arith, lines_more n p t, lines_some n (head_at im p).next.0 (omega arith))
  at_more (suc n) (suc k) p h t l =
      by_test (head_at im p).last (λ e. absurd (omega (arith, lines_end n p e)))
      (λ e. let o = lines_more n p e in omega (arith, at_more n k (head_at im p).next.0 (omega arith) t (omega arith)))

  line_on : (k p : ℕ) → (head_at im (line_from im k p)).next.0 ≡ line_from im (suc k) p
  unfolding line_from
  line_on zero p = refl
  line_on (suc k) p = line_on k (head_at im p).next.0

  module _ (t k p : ℕ) (h : Head) (e : p ≡ line_at im t k) (f : h ≡ head_at im p) where
    pub line_next : h.next.0 ≡ line_at im t (k + 1)
    unfolding line_at
    line_next = let z : k + 1 ≡ suc k = omega arith in rw (z, f, e) (line_on k (title_at im t).line.0)

    head_last : (b : Bool) → h.last ≡ b → (head_at im (line_at im t k)).last ≡ b
    head_last b q = sym (rw (f, e)) ∙ q

    ends : k < line_count im t → h.last ≡ true → line_count im t ≡ k + 1
    unfolding line_count lines_of line_at
    ends l q = at_last 100 k (title_at im t).line.0 l (head_last true q)

    goes : k < line_count im t → h.last ≡ false → k + 1 < 100 → k + 1 < line_count im t
    unfolding line_count lines_of line_at
    goes l q m = at_more 100 k (title_at im t).line.0 l (head_last false q) m

    pub known_turn : (count r : ℕ) → count ≡ min (k + 1) (line_count im t)
        → r ≡ (when count ≤? k then count else when h.last then count else when most_lines_of_table <? count then count else count + 1) → r ≡ min (k + 1 + 1) (line_count im t)
    known_turn count r g q =
        q
        ∙ if_ind (λ (x : ℕ). x ≡ min (k + 1 + 1) (line_count im t)) (count ≤? k) (λ a. omega (arith, leb-true count k a))
        (λ a. let b = leb-false count k a in
        if_ind (λ (x : ℕ). x ≡ min (k + 1 + 1) (line_count im t)) h.last (λ l. omega (arith, ends (omega arith) l))
        (λ l. if_ind (λ (x : ℕ). x ≡ min (k + 1 + 1) (line_count im t)) (most_lines_of_table <? count) (λ m. omega (arith, ltb-true most_lines_of_table count m, lines_few im t))
        (λ m. let n = ltb-false most_lines_of_table count m in omega (arith, goes (omega arith) l (omega arith)))))

  -- the place of the cursor line, once it is passed
  pub cursor_turn : (t k from cursor p other r : ℕ) → (from ≤ cursor → cursor < k → other ≡ line_at im t cursor) → r ≡ (when k =? cursor then p else other) → p ≡ line_at im t k
      → from ≤ cursor → cursor < k + 1 → r ≡ line_at im t cursor
  cursor_turn t k from cursor p other r f q e a b =
      q
      ∙ if_ind (λ (x : ℕ). x ≡ line_at im t cursor) (k =? cursor) (λ h. e ∙ ap (λ (i : ℕ). line_at im t i) (eqb-true k cursor h))
      (λ h. f a (below (eqb-false k cursor h)))
    where
      below : (k ≡ cursor → ⊥) → cursor < k
      below n = omega arith
