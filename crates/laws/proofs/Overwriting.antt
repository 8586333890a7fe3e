-- Overwriting and cutting or padding, law by law; the loops that write go by "what is left to write, written onto what is there".
use Prim.Native.Nat.{ℕ, zero, suc, ◌+◌, ◌≤◌, ◌<◌, min}
use mathlib.Core.Path.{◌≡◌, refl, sym, ap, ◌∙◌}
use mathlib.Core.List.{List, [], ◌∷◌, ◌++◌}
use native.Mathlib.Nat.{not-suc-le-zero, le_of_suc-le-suc, zero-add, suc-add}
use native.Mathlib.Numerals.{unary_clauses}
use native.Mathlib.Omega.{arith}
use lib.ListN.{length, get_or, set, take, drop}
use borrow.Author.Tests.{leb-true, leb-false}
use Rattle.laws.specs.Choice.{◌≤?◌}
use Rattle.laws.specs.Overwrite.{over, fit}
use Rattle.laws.proofs.Cases.{by_test}

-- ---- overwriting

pub over_nil : (d : List ℕ) (at : ℕ) → over d at [] ≡ d
unfolding over
over_nil [] at = refl
over_nil (x ∷ d) zero = refl
over_nil (x ∷ d) (suc at) = ap (λ (r : List ℕ). x ∷ r) (over_nil d at)

pub over_out : (d : List ℕ) (at : ℕ) (s : List ℕ) → length d ≤ at → over d at s ≡ d
unfolding over
over_out [] at s p = refl
over_out (x ∷ d) zero s p = absurd (not-suc-le-zero p)
over_out (x ∷ d) (suc at) s p = ap (λ (r : List ℕ). x ∷ r) (over_out d at s (le_of_suc-le-suc p))

pub length_over : (d : List ℕ) (at : ℕ) (s : List ℕ) → length (over d at s) ≡ length d
unfolding over
length_over [] at s = refl
length_over (x ∷ d) zero [] = refl
length_over (x ∷ d) zero (y ∷ s) = ap suc (length_over d zero s)
length_over (x ∷ d) (suc at) s = ap suc (length_over d at s)

-- a store is the first element written
pub over_cons : (d : List ℕ) (at y : ℕ) (s : List ℕ) → at < length d → over (set d at y) (suc at) s ≡ over d at (y ∷ s)
unfolding over
over_cons [] at y s p = absurd (not-suc-le-zero p)
over_cons (x ∷ d) zero y s p = over_zero d s
  where
    over_zero : (d s : List ℕ) → over (y ∷ d) 1 s ≡ y ∷ over d zero s
    over_zero d s = refl
over_cons (x ∷ d) (suc at) y s p = ap (λ (r : List ℕ). x ∷ r) (over_cons d at y s (le_of_suc-le-suc p))

-- one list after the other is their join
pub over_over : (d : List ℕ) (at : ℕ) (s t : List ℕ) → over (over d at s) (min (length d) (at + length s)) t ≡ over d at (s ++ t)
unfolding over
over_over [] at s t = refl
over_over (x ∷ d) zero [] t = simp (unary_clauses)
over_over (x ∷ d) zero (y ∷ s) t = simp (unary_clauses, zero-add) (ap (λ (r : List ℕ). y ∷ r) (simp zero-add at (over_over d zero s t)))
over_over (x ∷ d) (suc at) s t = simp (suc-add, unary_clauses) (ap (λ (r : List ℕ). x ∷ r) (over_over d at s t))

-- one list after the other, whether they fit or not
pub over_next : (d : List ℕ) (at : ℕ) (s t : List ℕ) → over (over d at s) (at + length s) t ≡ over d at (s ++ t)
over_next d at s t =
    by_test ((at + length s) ≤? length d)
    (λ e. let m : at + length s ≡ min (length d) (at + length s) = omega (arith, leb-true (at + length s) (length d) e) in rw m (over_over d at s t))
    (λ e. let l : length d < at + length s = leb-false (at + length s) (length d) e in
    let m : min (length d) (at + length s) ≡ length d = omega arith in
    over_out (over d at s) (at + length s) t (omega (arith, length_over d at s))
    ∙ sym (over_out (over d at s) (length d) t (omega (arith, length_over d at s)))
    ∙ rw m at (over_over d at s t))

-- a store after a list is that list with one element more
pub over_snoc : (d : List ℕ) (at y : ℕ) (s : List ℕ) → at + length s < length d → over (set d (at + length s) y) at s ≡ over d at (s ++ (y ∷ []))
unfolding over
over_snoc [] at y s p = absurd (not-suc-le-zero p)
over_snoc (x ∷ d) zero y [] p = ap (λ (r : List ℕ). y ∷ r) (sym (over_nil d zero))
over_snoc (x ∷ d) zero y (z ∷ s) p =
    simp (zero-add) (ap (λ (r : List ℕ). z ∷ r) (simp zero-add at (over_snoc d zero y s (omega arith))))
over_snoc (x ∷ d) (suc at) y s p = simp (suc-add) (ap (λ (r : List ℕ). x ∷ r) (over_snoc d at y s (omega arith)))

-- a list as long as what it is written over
pub over_all : (d s : List ℕ) → length s ≡ length d → over d 0 s ≡ s
unfolding over
over_all [] [] e = refl
over_all [] (y ∷ s) e = absurd (omega arith)
over_all (x ∷ d) [] e = absurd (omega arith)
over_all (x ∷ d) (y ∷ s) e = ap (λ (r : List ℕ). y ∷ r) (over_all d s (omega arith))

-- a lent part that comes back
pub over_back : (d : List ℕ) (at n : ℕ) (s : List ℕ) → length s ≡ n → at + n ≤ length d
    → take at d ++ (s ++ drop n (drop at d)) ≡ over d at s
unfolding over
over_back [] zero n [] e p = let z : n ≡ 0 = omega arith in rw z
over_back [] zero n (y ∷ s) e p = absurd (omega arith)
over_back [] (suc at) n s e p = absurd (omega arith)
over_back (x ∷ d) zero zero [] e p = refl
over_back (x ∷ d) zero zero (y ∷ s) e p = absurd (omega arith)
over_back (x ∷ d) zero (suc n) [] e p = absurd (omega arith)
over_back (x ∷ d) zero (suc n) (y ∷ s) e p = ap (λ (r : List ℕ). y ∷ r) (over_back d zero n s (omega arith) (omega arith))
over_back (x ∷ d) (suc at) n s e p = ap (λ (r : List ℕ). x ∷ r) (over_back d at n s e (omega arith))

-- ---- cut or padded

pub length_fit : (b n : ℕ) (s : List ℕ) → length (fit b n s) ≡ n
unfolding fit
length_fit b zero s = refl
length_fit b (suc n) [] = ap suc (length_fit b n [])
length_fit b (suc n) (x ∷ s) = ap suc (length_fit b n s)

pub fit_at : (b n : ℕ) (s : List ℕ) (i : ℕ) → i < n → get_or (fit b n s) i b ≡ get_or s i b
unfolding fit
fit_at b zero s i p = absurd (not-suc-le-zero p)
fit_at b (suc n) [] zero p = refl
fit_at b (suc n) [] (suc i) p = fit_at b n [] i (le_of_suc-le-suc p) ∙ refl
fit_at b (suc n) (x ∷ s) zero p = refl
fit_at b (suc n) (x ∷ s) (suc i) p = fit_at b n s i (le_of_suc-le-suc p)

-- what fits comes back
pub take_fit : (b n k : ℕ) (s : List ℕ) → length s ≡ k → k ≤ n → take k (fit b n s) ≡ s
unfolding fit
take_fit b n zero [] e p = refl
take_fit b n zero (x ∷ s) e p = absurd (omega arith)
take_fit b n (suc k) [] e p = absurd (omega arith)
take_fit b zero (suc k) (x ∷ s) e p = absurd (omega arith)
take_fit b (suc n) (suc k) (x ∷ s) e p = ap (λ (r : List ℕ). x ∷ r) (take_fit b n k s (omega arith) (omega arith))

-- written onto blanks
pub over_blank : (b n : ℕ) (s : List ℕ) → over (fit b n []) 0 s ≡ fit b n s
unfolding over fit
over_blank b zero s = refl
over_blank b (suc n) [] = refl
over_blank b (suc n) (x ∷ s) = ap (λ (r : List ℕ). x ∷ r) (over_blank b n s)

-- written after what is there already
pub over_fit : (b n : ℕ) (s t : List ℕ) → over (fit b n s) (length s) t ≡ fit b n (s ++ t)
unfolding over fit
over_fit b zero s t = refl
over_fit b (suc n) [] t = over_blank b (suc n) t
over_fit b (suc n) (x ∷ s) t = ap (λ (r : List ℕ). x ∷ r) (over_fit b n s t)

-- four elements, one by one
pub fit_four : (b : ℕ) (s : List ℕ) → fit b 4 s ≡ get_or s 0 b ∷ get_or s 1 b ∷ get_or s 2 b ∷ get_or s 3 b ∷ []
unfolding fit
fit_four b [] = refl
fit_four b (x ∷ []) = refl
fit_four b (x ∷ y ∷ []) = refl
fit_four b (x ∷ y ∷ z ∷ []) = refl
fit_four b (x ∷ y ∷ z ∷ w ∷ s) = refl
