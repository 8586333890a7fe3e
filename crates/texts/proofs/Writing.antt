-- Texts put into a row: what is left to put, put into the row as it is, is the whole put into the row as it was.
use Prim.Native.Nat.{ℕ, zero, suc, ◌+◌, ◌-◌, ◌≤◌, ◌<◌, min}
use mathlib.Core.Path.{◌≡◌, refl, sym, ap, ◌∙◌}
use mathlib.Core.List.{List, [], ◌∷◌, ◌++◌}
use native.Mathlib.Omega.{arith}
use lib.ListN.{length, take, drop, set, replicate, length-append, length-drop, length-take, length-replicate}
use lib.Seq.{length-take-le}
use Rattle.std.proofs.lemmas.List.{take-replicate}
use borrow.Author.Tests.{leb-true, leb-false}
use Rattle.laws.proofs.Cases.{by_test}
use Rattle.laws.specs.Choice.{◌≤?◌}
use Rattle.laws.specs.Overwrite.{fit, over}
use Rattle.laws.proofs.Overwriting.{length_over, length_fit, over_cons, over_nil, over_out, over_over, over_all, over_back}
use Rattle.laws.specs.Parts.{put_at}
use Rattle.laws.proofs.Storing.{put_over}
use Rattle.texts.specs.Row.{Put}

-- ---- one after the other

-- two texts
pub put_then : {d e f s t : List ℕ} {at m r : ℕ} → Put d at s e m → Put e m t f r → Put d at (s ++ t) f r
put_then {d = d} {e = e} {s = s} {t = t} {at = at} a b =
    let l : length e ≡ length d = ap length a.is ∙ length_over d at s in
    record {
      is = b.is ∙ rw (a.is, a.ends) (over_over d at s t);
      ends = omega (arith, a.ends, b.ends, length-append s t);
    }

-- the same text under another name
pub same : {d e s t : List ℕ} {at r : ℕ} → s ≡ t → Put d at s e r → Put d at t e r
same q a = rw q at a

-- ---- cells

pub put_in : (d : List ℕ) (at b : ℕ) → at < length d → Put d at (b ∷ []) (set d at b) (at + 1)
put_in d at b h = record {
  is = sym (over_nil (set d at b) (suc at)) ∙ over_cons d at b [] h;
  ends = omega arith;
}

-- past the end all is dropped
pub put_out : (d t : List ℕ) (at : ℕ) → length d ≤ at → Put d at t d (length d)
put_out d t at h = record {
  is = sym (over_out d at t h);
  ends = omega arith;
}

-- ---- a part of a row that comes back written

-- of a text that has no room the rest is dropped
over_cut : (d : List ℕ) (at n : ℕ) (s : List ℕ) → n ≡ min (length s) (length d - at) → over d at (take n s) ≡ over d at s
unfolding over
over_cut [] at n s e = refl
over_cut (x ∷ d) zero zero [] e = refl
over_cut (x ∷ d) zero zero (y ∷ s) e = absurd (omega arith)
over_cut (x ∷ d) zero (suc n) [] e = refl
over_cut (x ∷ d) zero (suc n) (y ∷ s) e = ap (λ (r : List ℕ). y ∷ r) (over_cut d zero n s (omega arith))
over_cut (x ∷ d) (suc at) n s e = ap (λ (r : List ℕ). x ∷ r) (over_cut d at n s (omega arith))

pub put_copied : (d s e : List ℕ) (at n : ℕ) → at < length d → n ≡ min (length s) (length d - at) → e ≡ put_at at (take n s) d
    → Put d at s e (at + n)
put_copied d s e at n h q p =
    let l : length (take n s) ≡ n = length-take-le n s (omega arith) in
    record {
      is = p ∙ put_over at (take n s) d (omega (arith, l)) ∙ over_cut d at n s q;
      ends = omega arith;
    }

put_part : (d s e : List ℕ) (at n : ℕ) → at < length d → n ≡ min (length s) (length d - at) → e ≡ take n s
    → Put d at s (take at d ++ (e ++ drop (at + n - at) (drop at d))) (at + n)
put_part d s e at n h q p =
    let z : at + n - at ≡ n = omega arith in
    let l : length e ≡ n = ap length p ∙ length-take-le n s (omega arith) in
    record {
      is = rw z (over_back d at n e l (omega arith) ∙ rw p (over_cut d at n s q));
      ends = omega arith;
    }

pub put_filled : (d e : List ℕ) (at n b count : ℕ) → at < length d → n ≡ min count (length d - at)
    → e ≡ replicate (length (take (at + n - at) (drop at d))) b
    → Put d at (replicate count b) (take at d ++ (e ++ drop (at + n - at) (drop at d))) (at + n)
put_filled d e at n b count h q p =
    let z : length (take (at + n - at) (drop at d)) ≡ n = omega (arith, length-take (at + n - at) (drop at d), length-drop at d) in
    put_part d (replicate count b) e at n h (omega (arith, length-replicate count b)) (p ∙ rw z (sym (take-replicate n count b (omega arith))))

-- ---- loops that put a text

-- of a text to be put into a row there is this left, to be put into the row as it is
pub record Rest (d : List ℕ) (at : ℕ) (s e : List ℕ) (m : ℕ) (t : List ℕ) : Type 0 where
  pub is : over e m t ≡ over d at s
  pub ends : min (length d) (m + length t) ≡ min (length d) (at + length s)
  pub size : length e ≡ length d

pub rest_start : (d s : List ℕ) (at : ℕ) → Rest d at s d at s
rest_start d s at = record { is = refl; ends = refl; size = refl }

-- past the end of the row is as far as its end
pub rest_within : (d s : List ℕ) (at m : ℕ) → m ≡ min at (length d) → Rest d at s d m s
rest_within d s at m e =
    by_test (at ≤? length d)
    (λ h. let l = leb-true at (length d) h in let z : m ≡ at = omega arith in rw z (rest_start d s at))
    (λ h. let l = leb-false at (length d) h in record {
      is = over_out d m s (omega arith) ∙ sym (over_out d at s (omega arith));
      ends = omega arith;
      size = refl;
    })

-- the next part of it
pub rest_step : {d s e f t u : List ℕ} {at m k : ℕ} → Rest d at s e m (t ++ u) → Put e m t f k → Rest d at s f k u
rest_step {e = e} {t = t} {u = u} {m = m} r p = record {
  is = rw (p.is, p.ends) (over_over e m t u) ∙ r.is;
  ends = omega (arith, p.ends, r.size, r.ends, length-append t u);
  size = ap length p.is ∙ length_over e m t ∙ r.size;
}

-- the next cell of it
pub rest_cell : {d s e f t u : List ℕ} {at m k b : ℕ} → Rest d at s e m t → t ≡ b ∷ u → Put e m (b ∷ []) f k → Rest d at s f k u
rest_cell {u = u} {b = b} r q p = rest_step {t = b ∷ []} {u = u} (rw q at r) p

-- nothing of it is left, or nothing of the row
pub rest_end : {d s e t : List ℕ} {at m r : ℕ} → Rest d at s e m t → (m < length e → length t ≡ 0) → r ≡ min (length e) m → Put d at s e r
rest_end {e = e} {t = t} {m = m} r f q =
    by_test (length e ≤? m)
    (λ h. let l = leb-true (length e) m h in record { is = sym (over_out e m t l) ∙ r.is; ends = omega (arith, r.ends, r.size) })
    (λ h. let l = leb-false (length e) m h in
    let z = f l in
    record { is = sym (over_none t z) ∙ r.is; ends = omega (arith, r.ends, r.size) })
  where
    over_none : (t : List ℕ) → length t ≡ 0 → over e m t ≡ e
    over_none [] z = over_nil e m
    over_none (x ∷ t) z = absurd (omega arith)

-- nothing of it is left
pub rest_done : {d s e t : List ℕ} {at m : ℕ} → Rest d at s e m t → length t ≡ 0 → m ≤ length e → Put d at s e m
rest_done r z h = rest_end r (λ l. z) (omega arith)

-- ---- whole rows

over_fit : (b : ℕ) (d s : List ℕ) → over d 0 (s ++ replicate (length d - length s) b) ≡ fit b (length d) s
unfolding over fit
over_fit b [] s = refl
over_fit b (x ∷ d) [] =
    let z : length (x ∷ d) - 0 ≡ suc (length d) = omega arith in
    let u : length d - 0 ≡ length d = omega arith in
    rw z (ap (λ (r : List ℕ). b ∷ r) (rw u at (over_fit b d [])))
over_fit b (x ∷ d) (y ∷ s) =
    let z : length (x ∷ d) - length (y ∷ s) ≡ length d - length s = omega arith in
    rw z (ap (λ (r : List ℕ). y ∷ r) (over_fit b d s))

-- a text from the left edge on, and padded
pub padded : {d s e f : List ℕ} {m : ℕ} (b : ℕ) → Put d 0 s e m → f ≡ over e m (replicate (length e - m) b) → f ≡ fit b (length d) s
padded {d = d} {s = s} {e = e} {m = m} b a q =
    let l : length e ≡ length d = ap length a.is ∙ length_over d 0 s in
    let z : length e - m ≡ length d - length s = omega (arith, a.ends) in
    q ∙ rw z (rw (a.is, a.ends) (over_over d 0 s (replicate (length d - length s) b)) ∙ over_fit b d s)

-- blanks alone
pub all_blank : (b : ℕ) (d f : List ℕ) → f ≡ over d 0 (replicate (length d - 0) b) → f ≡ fit b (length d) []
all_blank b d f q = q ∙ over_fit b d []

-- a text over the end of a row that is cut or padded
pub over_tail : (b n k : ℕ) (s t : List ℕ) → n ≡ k + length t → over (fit b n s) k t ≡ fit b k s ++ t
unfolding over fit
over_tail b n zero s t e = over_all (fit b n s) t (omega (arith, length_fit b n s))
over_tail b zero (suc k) s t e = absurd (omega arith)
over_tail b (suc n) (suc k) [] t e = ap (λ (r : List ℕ). b ∷ r) (over_tail b n k [] t (omega arith))
over_tail b (suc n) (suc k) (x ∷ s) t e = ap (λ (r : List ℕ). x ∷ r) (over_tail b n k s t (omega arith))
