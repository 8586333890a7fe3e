-- The table of places: what it holds after the fields were entered, and that a place that is taken out leaves one open place less.
use Prim.Native.Nat.{ℕ, zero, suc, ◌+◌, ◌≤◌, ◌<◌}
use mathlib.Core.Path.{◌≡◌, refl, sym, ap, ◌∙◌}
use mathlib.Core.Bool.{true, false}
use mathlib.Core.List.{List, [], ◌∷◌, ◌++◌, Memᴰ}
use native.Mathlib.Omega.{arith}
use lib.ListN.{length, get_or, set, length-set, get_or-eq_default}
use lib.Seq.{get_or-set_same, get_or-set_other}
use borrow.Author.Tests.{eqb-true, eqb-false, ltb-true, ltb-false}
use Rattle.laws.specs.Choice.{when◌then◌else◌, ◌=?◌, ◌<?◌}
use Rattle.laws.specs.Bytes.{byte_at}
use Rattle.laws.proofs.Cases.{if_ind, by_test, if_true, if_false, if_eq, if_ne, if_lt, if_ge, if_max, and_true, and_false}
use Rattle.field.specs.Values.{bytes_of}
use Rattle.field.specs.Sheet.{size_of}
use Rattle.field.specs.declared.record.Field.{Field}
use Rattle.cmf.specs.Readers.{component_at}
use Rattle.cmf.specs.declared.component.Component.{Component}
use Rattle.marker.specs.Marking.{is_byte_at, has_field, default_at}
use Rattle.marker.specs.Table.{set_at, with_field, with_fields, fields_read, open_in}

-- ---- a number set

length_set_at : (p n : ℕ) (t : List ℕ) → length (set_at p n t) ≡ length t
unfolding set_at
length_set_at p n t = if_ind (λ (u : List ℕ). length u ≡ length t) (p <? length t) (λ _. length-set t p n) (λ _. refl)

at_set : (p n x : ℕ) (t : List ℕ) → p < length t → get_or (set_at p n t) x 0 ≡ (when p =? x then n else get_or t x 0)
unfolding set_at
at_set p n x t h =
    ap (λ (u : List ℕ). get_or u x 0) (if_lt p (length t) (set t p n) t h)
    ∙ by_test (p =? x)
    (λ e. ap (λ (y : ℕ). get_or (set t p n) y 0) (sym (eqb-true p x e)) ∙ get_or-set_same t p n 0 h ∙ sym (if_true n (get_or t x 0) e))
    (λ e. get_or-set_other t p x n 0 (λ q. eqb-false p x e (sym q)) ∙ sym (if_false n (get_or t x 0) e))

-- a place taken out
pub at_taken_out : (p x : ℕ) (t : List ℕ) → get_or (set_at p 0 t) x 0 ≡ (when p =? x then 0 else get_or t x 0)
unfolding set_at
at_taken_out p x t =
    by_test (p <? length t) (λ e. at_set p 0 x t (ltb-true p (length t) e))
    (λ e. ap (λ (u : List ℕ). get_or u x 0) (if_false (set t p 0) t e)
    ∙ by_test (p =? x)
    (λ q. get_or-eq_default t 0 {n = x} (omega (arith, eqb-true p x q, ltb-false p (length t) e)) ∙ sym (if_true 0 (get_or t x 0) q))
    (λ q. sym (if_false 0 (get_or t x 0) q)))

-- ---- open places

open_set : (t : List ℕ) (p : ℕ) → (get_or t p 0 ≡ 0 → ⊥) → open_in (set t p 0) + 1 ≡ open_in t
unfolding open_in
open_set [] p h = absurd (h refl)
open_set (n ∷ t) zero h = rw (if_eq {A = ℕ} 0 0 0 1 refl, if_ne {A = ℕ} n 0 0 1 h) (omega arith)
open_set (n ∷ t) (suc p) h = omega (arith, open_set t p h)

pub open_less : (t : List ℕ) (p : ℕ) → (get_or t p 0 ≡ 0 → ⊥) → open_in (set_at p 0 t) + 1 ≡ open_in t
unfolding set_at
open_less t p h =
    by_test (p <? length t)
    (λ e. rw (if_true (set t p 0) t e) (open_set t p h))
    (λ e. absurd (h (get_or-eq_default t 0 {n = p} (ltb-false p (length t) e))))

-- a number set opens one place at most
open_more : (t : List ℕ) (p n : ℕ) → open_in (set t p n) ≤ open_in t + 1
unfolding open_in
open_more [] p n = omega arith
open_more (m ∷ t) zero n = omega (arith, if_max (n =? 0) {x = 0} {y = 1} {m = 1} (omega arith) (omega arith))
open_more (m ∷ t) (suc p) n = omega (arith, open_more t p n)

open_none : (t : List ℕ) → ((x : ℕ) → get_or t x 0 ≡ 0) → open_in t ≡ 0
unfolding open_in
open_none [] z = refl
open_none (n ∷ t) z = omega (arith, if_eq {A = ℕ} n 0 0 1 (z 0), open_none t (λ x. z (suc x)))

-- ---- fields entered

-- every one-byte field of a list has its place below n
abbrev pub Below : List Field → ℕ → Type 0
Below fs n = (f : Field) → Memᴰ f fs → size_of f ≡ 1 → f.sheet.0 < n

-- one of them, by the code's tests
module _ (f : Field) (t : List ℕ) where
  pub field_set : {b : ℕ} → size_of f ≡ 1 → f.sheet.0 < length t → b ≡ byte_at (bytes_of f.default) 0 → set t f.sheet.0 (b + 1) ≡ with_field f t
  unfolding with_field set_at
  field_set o h e = rw e (sym (if_eq (size_of f) 1 _ _ o ∙ if_lt f.sheet.0 (length t) _ _ h))

  pub field_out : size_of f ≡ 1 → length t ≤ f.sheet.0 → t ≡ with_field f t
  unfolding with_field set_at
  field_out o h = sym (if_eq (size_of f) 1 _ _ o ∙ if_ge f.sheet.0 (length t) _ _ h)

  pub field_other : (size_of f ≡ 1 → ⊥) → t ≡ with_field f t
  unfolding with_field
  field_other o = sym (if_ne (size_of f) 1 _ _ o)

-- the last of the places that are left
fields_last : (fs : List Field) (f : Field) (t : List ℕ) → with_fields (fs ++ (f ∷ [])) t ≡ with_fields fs (with_field f t)
unfolding with_fields
fields_last [] f t = refl
fields_last (g ∷ fs) f t = ap (with_field g) (fields_last fs f t)

read_last : (im ps : List ℕ) (p : ℕ) → fields_read im (ps ++ (p ∷ [])) ≡ fields_read im ps ++ ((component_at im p).field ∷ [])
unfolding fields_read
read_last im [] p = refl
read_last im (q ∷ ps) p = ap (λ (fs : List Field). (component_at im q).field ∷ fs) (read_last im ps p)

pub entered_last : (im ps qs : List ℕ) (p : ℕ) (t : List ℕ) {c : Component} {u : List ℕ} → qs ≡ ps ++ (p ∷ []) → c ≡ component_at im p → u ≡ with_field c.field t
    → with_fields (fields_read im qs) t ≡ with_fields (fields_read im ps) u
entered_last im ps qs p t h e w = rw (h, read_last im ps p, w, e) (fields_last (fields_read im ps) (component_at im p).field t)

pub entered_none : (im ps t : List ℕ) → length ps ≡ 0 → with_fields (fields_read im ps) t ≡ t
unfolding fields_read with_fields
entered_none im [] t h = refl
entered_none im (p ∷ ps) t h = absurd (omega arith)

length_fields : (fs : List Field) (t : List ℕ) → length (with_fields fs t) ≡ length t
unfolding with_fields with_field
length_fields [] t = refl
length_fields (f ∷ fs) t =
    if_ind (λ (u : List ℕ). length u ≡ length t) (size_of f =? 1)
    (λ _. length_set_at f.sheet.0 (byte_at (bytes_of f.default) 0 + 1) (with_fields fs t) ∙ length_fields fs t)
    (λ _. length_fields fs t)

pub open_fields : (fs : List Field) (t : List ℕ) → ((x : ℕ) → get_or t x 0 ≡ 0) → open_in (with_fields fs t) ≤ length fs
unfolding with_fields with_field set_at
open_fields [] t z = omega (arith, open_none t z)
open_fields (f ∷ fs) t z =
    let u = with_fields fs t in
    let d = byte_at (bytes_of f.default) 0 + 1 in
    let r = open_fields fs t z in
    if_ind (λ (v : List ℕ). open_in v ≤ length (f ∷ fs)) (size_of f =? 1)
    (λ _. if_ind (λ (v : List ℕ). open_in v ≤ length (f ∷ fs)) (f.sheet.0 <? length u) (λ _. omega (arith, r, open_more u f.sheet.0 d)) (λ _. omega (arith, r)))
    (λ _. omega (arith, r))

-- the number of a place, with the fields fs entered in a table of zeros
abbrev pub number_at : ℕ → List Field → ℕ
number_at p fs = when has_field p fs then default_at p fs + 1 else 0

-- a field that is not at a place, and one that is
number_next : (p : ℕ) (f : Field) (fs : List Field) → is_byte_at p f ≡ false → number_at p (f ∷ fs) ≡ number_at p fs
unfolding has_field default_at
number_next p f fs h = rw (if_false true (has_field p fs) h, if_false (byte_at (bytes_of f.default) 0) (default_at p fs) h)

number_here : (p : ℕ) (f : Field) (fs : List Field) → is_byte_at p f ≡ true → number_at p (f ∷ fs) ≡ byte_at (bytes_of f.default) 0 + 1
unfolding has_field default_at
number_here p f fs h = rw (if_true true (has_field p fs) h, if_true (byte_at (bytes_of f.default) 0) (default_at p fs) h) (if_true _ _ refl)

pub entered : (fs : List Field) (t : List ℕ) → ((x : ℕ) → get_or t x 0 ≡ 0) → Below fs (length t) → (p : ℕ) → get_or (with_fields fs t) p 0 ≡ number_at p fs
unfolding with_fields with_field has_field is_byte_at
entered [] t z b p = z p ∙ sym (if_false (default_at p [] + 1) 0 refl)
entered (f ∷ fs) t z b p =
    let rest = entered fs t z (λ g m. b g (Memᴰ.tail m)) p in
    let d = byte_at (bytes_of f.default) 0 + 1 in
    by_test (size_of f =? 1)
    (λ e. let l : f.sheet.0 < length (with_fields fs t) = omega (arith, length_fields fs t, b f (Memᴰ.head refl) (eqb-true (size_of f) 1 e)) in
    ap (λ (u : List ℕ). get_or u p 0) (if_true (set_at f.sheet.0 d (with_fields fs t)) (with_fields fs t) e)
    ∙ at_set f.sheet.0 d p (with_fields fs t) l
    ∙ by_test (f.sheet.0 =? p)
    (λ q. if_true d (get_or (with_fields fs t) p 0) q ∙ sym (number_here p f fs (and_true (size_of f =? 1) q ∙ e)))
    (λ q. if_false d (get_or (with_fields fs t) p 0) q ∙ rest ∙ sym (number_next p f fs (and_false (size_of f =? 1) q))))
    (λ e. ap (λ (u : List ℕ). get_or u p 0) (if_false (set_at f.sheet.0 d (with_fields fs t)) (with_fields fs t) e)
    ∙ rest
    ∙ sym (number_next p f fs
    (by_test (f.sheet.0 =? p) (λ q. and_true (size_of f =? 1) q ∙ e) (λ q. and_false (size_of f =? 1) q))))
