-- The index as a whole: an array is its first k entries and zeros from the walk's start on, since an entry is set only as the next; and an
-- array that is so is its entries' numbers, padded with zeros.
use Prim.Native.Nat.{ℕ, zero, suc, ◌+◌, ◌-◌, ◌*◌, ◌≤◌, ◌<◌}
use mathlib.Core.Path.{◌≡◌, refl, sym, ap, ◌∙◌}
use mathlib.Core.List.{List, [], ◌∷◌, ◌++◌}
use native.Mathlib.Omega.{arith}
use lib.ListN.{length, get_or, set, take, length-append, get_or-eq_default}
use lib.Seq.{get_or-set_other, ext_get_or}
use borrow.Author.Tests.{ltb-true, ltb-false}
use Rattle.laws.specs.Choice.{◌<?◌}
use Rattle.laws.specs.Overwrite.{fit}
use Rattle.laws.proofs.Cases.{by_test, if_ind, if_lt}
use Rattle.laws.proofs.Lists.{get_or_left, get_or_right}
use Rattle.laws.proofs.Overwriting.{length_fit, fit_at, take_fit}
use Rattle.cmf.specs.Limits.{most_fields}
use Rattle.cmf.specs.declared.title.Title.{Title}
use Rattle.cmf.specs.declared.head.Head.{Head}
use Rattle.acceptance.specs.declared.index.Entry.{Entry}
use Rattle.acceptance.specs.declared.progress.Progress.{Progress}
use Rattle.acceptance.specs.Check.{State, take_title, take_line}
use Rattle.acceptance.proofs.CodeSteps.{title_fields, line_fields}
use Rattle.acceptance.specs.Index.{entry, capacity, entry_at, listed, with_entry, seen, numbers_of, index_of}
use Rattle.acceptance.specs.Clean.{Clean, StaysClean}

-- ---- zeros

-- with the next entry set
pub clean_set : (k : ℕ) (xs : List ℕ) (e : Entry) → Clean k xs → Clean (k + 1) (with_entry xs k e)
unfolding with_entry
clean_set k xs e c =
    if_ind (Clean (k + 1)) (k <? capacity xs)
    (λ _. record {
      zeros = λ i h.
          get_or-set_other (set (set xs (3 * k) e.place.0) (3 * k + 1) e.from.0) (3 * k + 2) i e.size 0 (λ q. omega arith)
          ∙ get_or-set_other (set xs (3 * k) e.place.0) (3 * k + 1) i e.from.0 0 (λ q. omega arith)
          ∙ get_or-set_other xs (3 * k) i e.place.0 0 (λ q. omega arith) ∙ c.zeros i (omega arith);
    })
    (λ _. record { zeros = λ i h. c.zeros i (omega arith) })

-- an array that no entry was set in
fresh : (n i : ℕ) → get_or (fit 0 n []) i 0 ≡ 0
unfolding fit
fresh zero i = refl
fresh (suc n) zero = refl
fresh (suc n) (suc i) = fresh n i

pub clean_first : Clean 0 (index_of [])
unfolding index_of numbers_of
clean_first = record { zeros = λ i h. fresh (3 * most_fields) i }

-- a title and a line's head are no field
pub clean_title : (xs : List ℕ) (t : Title) (w : Progress) {v : Progress} → v ≡ take_title t w → Clean w.fields xs → Clean v.fields xs
clean_title xs t w e c = rw (ap (λ (r : Progress). r.fields) e ∙ title_fields t w) c

pub clean_head : (im xs : List ℕ) (n before p : ℕ) (h : Head) (w : Progress) {v : Progress} → v ≡ take_line im n before p h w → Clean w.fields xs → Clean v.fields xs
clean_head im xs n before p h w e c = rw (ap (λ (r : Progress). r.fields) e ∙ line_fields im n before p h w) c

-- ---- numbers

length_index : (es : List Entry) → length (index_of es) ≡ 3 * most_fields
unfolding index_of
length_index es = length_fit 0 (3 * most_fields) (numbers_of es)

numbers_join : (es fs : List Entry) → numbers_of (es ++ fs) ≡ numbers_of es ++ numbers_of fs
unfolding numbers_of
numbers_join [] fs = refl
numbers_join (e ∷ es) fs = rw (numbers_join es fs)

numbers_long : (es : List Entry) → length (numbers_of es) ≡ 3 * length es
unfolding numbers_of
numbers_long [] = refl
numbers_long (e ∷ es) = omega (arith, numbers_long es)

length_listed : (xs : List ℕ) (k : ℕ) → length (listed xs k) ≡ k
unfolding listed
length_listed xs zero = refl
length_listed xs (suc k) = omega (arith, length-append (listed xs k) (entry_at xs k ∷ []), length_listed xs k)

module _ (xs : List ℕ) where
  listed_long : (k : ℕ) → length (numbers_of (listed xs k)) ≡ 3 * k
  listed_long k = omega (arith, numbers_long (listed xs k), length_listed xs k)

  -- an entry's numbers are the array's
  entry_numbers : (k j : ℕ) → j < 3 → k < capacity xs → get_or (numbers_of (entry_at xs k ∷ [])) j 0 ≡ get_or xs (3 * k + j) 0
  unfolding entry_at numbers_of
  entry_numbers k zero h c = let z : 3 * k + 0 ≡ 3 * k = omega arith in rw (if_lt k (capacity xs) _ _ c, z)
  entry_numbers k (suc zero) h c = rw (if_lt k (capacity xs) _ _ c)
  entry_numbers k (suc (suc zero)) h c = rw (if_lt k (capacity xs) _ _ c)
  entry_numbers k (suc (suc (suc j))) h c = absurd (omega arith)

  -- the numbers of the first k entries are the array's first
  numbers_at_lem : (k i : ℕ) → i < 3 * k → i < 3 * capacity xs → get_or (numbers_of (listed xs k)) i 0 ≡ get_or xs i 0
  unfolding listed
  numbers_at_lem zero i h c = absurd (omega arith)
  numbers_at_lem (suc k) i h c =
      ap (λ (ns : List ℕ). get_or ns i 0) (numbers_join (listed xs k) (entry_at xs k ∷ []))
      ∙ by_test (i <? 3 * k)
      (λ e. let l = ltb-true i (3 * k) e in
      get_or_left (numbers_of (listed xs k)) (numbers_of (entry_at xs k ∷ [])) i 0 (omega (arith, listed_long k)) ∙ numbers_at_lem k i l c)
      (λ e. let l = ltb-false i (3 * k) e in
      get_or_right (numbers_of (listed xs k)) (numbers_of (entry_at xs k ∷ [])) i 0 (omega (arith, listed_long k))
      ∙ (let z : i - length (numbers_of (listed xs k)) ≡ i - 3 * k = omega (arith, listed_long k) in
      let y : 3 * k + (i - 3 * k) ≡ i = omega arith in
      rw z (rw y at (entry_numbers k (i - 3 * k) (omega arith) (omega arith)))))

  -- the array is its entries' numbers and zeros
  is_index : (k : ℕ) → length xs ≡ 3 * most_fields → Clean k xs → xs ≡ index_of (listed xs k)
  unfolding index_of
  is_index k l c =
      let n = numbers_of (listed xs k) in
      ext_get_or 0 xs (fit 0 (3 * most_fields) n) (l ∙ sym (length_fit 0 (3 * most_fields) n))
      (λ i h. by_test (i <? 3 * k)
      (λ e. sym (fit_at 0 (3 * most_fields) n i (omega arith) ∙ numbers_at_lem k i (ltb-true i (3 * k) e) (omega arith)))
      (λ e. let g = ltb-false i (3 * k) e in
      c.zeros i g
      ∙ sym (fit_at 0 (3 * most_fields) n i (omega arith) ∙ get_or-eq_default n 0 {n = i} (omega (arith, listed_long k)))))

-- and so, with the walk, it settles what the check found
pub settled : (s : State) (w : Progress) (xs ys : List ℕ) → xs ≡ index_of [] → length ys ≡ length xs → StaysClean 0 xs w.fields ys → seen w ys ≡ s
    → (w ≡ s.progress) × (ys ≡ index_of s.fields)
settled s w xs ys f l c e = (
  ap (λ (t : State). t.progress) e,
  is_index ys w.fields (l ∙ ap length f ∙ length_index []) (c (rw f clean_first)) ∙ ap (λ (t : State). index_of t.fields) e,
)

-- ---- the entries are read back

numbers_same : (es fs : List Entry) → numbers_of es ≡ numbers_of fs → es ≡ fs
unfolding numbers_of
numbers_same [] [] q = refl
numbers_same [] (f ∷ fs) q = absurd (omega (arith, ap length q))
numbers_same (e ∷ es) [] q = absurd (omega (arith, ap length q))
numbers_same (e ∷ es) (f ∷ fs) q =
    let a : e.place.0 ≡ f.place.0 = cc in
    let b : e.from.0 ≡ f.from.0 = cc in
    let c : e.size ≡ f.size = cc in
    let i : entry e.place.0 e.from.0 e.size ≡ entry f.place.0 f.from.0 f.size = rw (a, b, c) in
    let r : numbers_of es ≡ numbers_of fs = cc in
    ap (λ (x : Entry). x ∷ es) i ∙ ap (λ (xs : List Entry). f ∷ xs) (numbers_same es fs r)

clean_index : (es : List Entry) → Clean (length es) (index_of es)
unfolding index_of
clean_index es = record {
  zeros = λ i h. by_test (i <? 3 * most_fields)
      (λ e. fit_at 0 (3 * most_fields) (numbers_of es) i (ltb-true i (3 * most_fields) e) ∙ get_or-eq_default (numbers_of es) 0 {n = i} (omega (arith, numbers_long es)))
      (λ e. get_or-eq_default (fit 0 (3 * most_fields) (numbers_of es)) 0 {n = i} (omega (arith, ltb-false i (3 * most_fields) e, length_fit 0 (3 * most_fields) (numbers_of es))));
}

pub listed_index : (es : List Entry) → length es ≤ most_fields → listed (index_of es) (length es) ≡ es
unfolding index_of
listed_index es h =
    let xs = index_of es in
    let k = length es in
    let same : xs ≡ index_of (listed xs k) = is_index xs k (length_index es) (clean_index es) in
    let first : take (3 * k) xs ≡ numbers_of es = take_fit 0 (3 * most_fields) (3 * k) (numbers_of es) (numbers_long es) (omega arith) in
    let again : take (3 * k) (index_of (listed xs k)) ≡ numbers_of (listed xs k) = take_fit 0 (3 * most_fields) (3 * k) (numbers_of (listed xs k)) (listed_long xs k) (omega arith) in
    numbers_same (listed xs k) es (sym again ∙ ap (take (3 * k)) (sym same) ∙ first)
