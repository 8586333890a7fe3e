-- Numbers in bytes: four of them read and written at once, and the turns of the loops that read and write several numbers.
use Prim.Native.Nat.{ℕ, zero, suc, ◌+◌, ◌-◌, ◌*◌, ◌/◌, ◌%◌, ◌^◌, ◌≤◌, ◌<◌}
use mathlib.Core.Path.{◌≡◌, refl, sym, ap, ◌∙◌}
use mathlib.Core.List.{List, [], ◌∷◌, ◌++◌}
use native.Mathlib.Nat.{div-div-eq-div-mul, mod-eq_of_lt, zero-add, suc-add, mul_assoc, pow-succ', mul-add-div, mul-add-mod_self_left, div-add-mod}
use native.Mathlib.Omega.{arith}
use native.Mathlib.Numerals.{add-one}
use lib.ListN.{length, get_or, set, drop, drop_of_length-le}
use lib.Seq.{drop-cons}
use Rattle.laws.specs.Bytes.{byte_at}
use Rattle.laws.specs.Digits.{digits_of, low_first}
use Rattle.laws.specs.Overwrite.{over}
use Rattle.laws.proofs.Numerals.{low_suc, length_low}
use Rattle.laws.proofs.Overwriting.{over_next, over_nil, over_cons, over_all}
use Rattle.session_bytes.specs.Numbers.{number_at, numbers_bytes, numbers_from}

-- ---- reading, four bytes at once

-- the four lowest bytes of a number, and the rest
four_more : (n : ℕ) (bs : List ℕ) (at : ℕ)
    → number_at (suc (suc (suc (suc n)))) at bs
    ≡ byte_at bs at + 256 * byte_at bs (at + 1) + 65536 * byte_at bs (at + 2) + 16777216 * byte_at bs (at + 3) + 4294967296 * number_at n (at + 4) bs
unfolding number_at
four_more n bs at =
    let two : at + 1 + 1 ≡ at + 2 = omega arith in
    let three : at + 2 + 1 ≡ at + 3 = omega arith in
    let four : at + 3 + 1 ≡ at + 4 = omega arith in
    rw (two, three, four) (omega arith)

-- one byte, four, and eight as two fours
pub one_read : (bs : List ℕ) (at : ℕ) → byte_at bs at ≡ number_at 1 at bs
unfolding number_at
one_read bs at = omega arith

pub four_read : (bs : List ℕ) (at : ℕ)
    → byte_at bs at + 256 * byte_at bs (at + 1) + 65536 * byte_at bs (at + 2) + 16777216 * byte_at bs (at + 3) ≡ number_at 4 at bs
unfolding number_at
four_read bs at = omega (arith, four_more 0 bs at)

pub eight_read : (bs : List ℕ) (at : ℕ) → number_at 4 at bs + 4294967296 * number_at 4 (at + 4) bs ≡ number_at 8 at bs
eight_read bs at = omega (arith, four_more 4 bs at, four_read bs at)

-- ---- writing, four bytes at once

-- a store is the first element written, inside and beyond the end
byte_first : (d : List ℕ) (at x : ℕ) (s : List ℕ) → over (set d at x) (suc at) s ≡ over d at (x ∷ s)
unfolding over
byte_first [] at x s = refl
byte_first (y ∷ d) zero x s = refl
byte_first (y ∷ d) (suc at) x s = ap (λ (r : List ℕ). y ∷ r) (byte_first d at x s)

pub byte_put : (d : List ℕ) (at x : ℕ) → set d at x ≡ over d at (x ∷ [])
byte_put d at x = sym (over_nil (set d at x) (suc at)) ∙ byte_first d at x []

-- a byte before others, and four
byte_before : (d : List ℕ) (at p x : ℕ) (s : List ℕ) → p ≡ at + 1 → over (set d at x) p s ≡ over d at (x ∷ s)
byte_before d at p x s e = rw (e, add-one) (byte_first d at x s)

four_put : (d : List ℕ) (at a b c e : ℕ) → set (set (set (set d at a) (at + 1) b) (at + 2) c) (at + 3) e ≡ over d at (a ∷ b ∷ c ∷ e ∷ [])
four_put d at a b c e =
    byte_put (set (set (set d at a) (at + 1) b) (at + 2) c) (at + 3) e
    ∙ byte_before (set (set d at a) (at + 1) b) (at + 2) (at + 3) c (e ∷ []) (omega arith)
    ∙ byte_before (set d at a) (at + 1) (at + 2) b (c ∷ e ∷ []) (omega arith)
    ∙ byte_before d at (at + 1) a (b ∷ c ∷ e ∷ []) refl

-- a number's bytes, one and four
pub one_low : (x : ℕ) → x < 256 → x ∷ [] ≡ low_first 1 x
unfolding low_first digits_of
one_low x h = rw (low_suc 0 x, mod-eq_of_lt h)

pub four_low : (d : List ℕ) (at x : ℕ) → x < 4294967296
    → set (set (set (set d at (x % 256)) (at + 1) (x / 256 % 256)) (at + 2) (x / 65536 % 256)) (at + 3) (x / 16777216) ≡ over d at (low_first 4 x)
unfolding low_first digits_of
four_low d at x k =
    let two : x / 256 / 256 ≡ x / 65536 = div-div-eq-div-mul x 256 256 in
    let three : x / 65536 / 256 ≡ x / 16777216 = div-div-eq-div-mul x 65536 256 in
    let last : x / 16777216 % 256 ≡ x / 16777216 = omega arith in
    rw (low_suc 3 x, low_suc 2 (x / 256), two, low_suc 1 (x / 65536), three, low_suc 0 (x / 16777216), last)
    (four_put d at (x % 256) (x / 256 % 256) (x / 65536 % 256) (x / 16777216))

-- the bytes of two numbers, one after the other, are those of one
low_join : (m n q r : ℕ) → r < 256 ^ m → low_first m r ++ low_first n q ≡ low_first (m + n) (256 ^ m * q + r)
unfolding low_first digits_of
low_join zero n q r h =
    let z : 256 ^ 0 * q + r ≡ q = omega arith in
    rw (z, zero-add)
low_join (suc m) n q r h =
    let e : 256 ^ suc m * q ≡ 256 * (256 ^ m * q) = rw (pow-succ' 256 m, mul_assoc 256 (256 ^ m) q) in
    let f : 256 ^ suc m ≡ 256 * 256 ^ m = pow-succ' 256 m in
    let z : 0 < 256 = omega arith in
    rw (suc-add, low_suc m r, low_suc (m + n) (256 ^ suc m * q + r), e, mul-add-mod_self_left 256 (256 ^ m * q) r, mul-add-div z (256 ^ m * q) r)
    (ap (λ (l : List ℕ). r % 256 ∷ l) (low_join m n q (r / 256) (omega arith)))

-- eight as two fours
pub eight_low : (x : ℕ) → low_first 4 (x % 4294967296) ++ low_first 4 (x / 4294967296) ≡ low_first 8 x
eight_low x =
    low_join 4 4 (x / 4294967296) (x % 4294967296) (omega arith) ∙ ap (λ (n : ℕ). low_first 8 n) (div-add-mod x 4294967296)

-- ---- several numbers, from the first on

module _ (w : ℕ) (xs d : List ℕ) (i p : ℕ) where
  pub numbers_turn : (t : List ℕ) (q : ℕ) → i < length xs → q ≡ p + w → t ≡ over d p (low_first w (get_or xs i 0))
      → over t q (numbers_bytes w (drop (i + 1) xs)) ≡ over d p (numbers_bytes w (drop i xs))
  unfolding numbers_bytes
  numbers_turn t q h e f =
      let k : q ≡ p + length (low_first w (get_or xs i 0)) = e ∙ ap (λ (n : ℕ). p + n) (sym (length_low w (get_or xs i 0))) in
      rw (drop-cons xs i 0 h, add-one, f, k) (over_next d p (low_first w (get_or xs i 0)) (numbers_bytes w (drop (suc i) xs)))

  pub numbers_done : length xs ≤ i → over d p (numbers_bytes w (drop i xs)) ≡ d
  unfolding numbers_bytes
  numbers_done h = rw (drop_of_length-le xs {i = i} h) (over_nil d p)

-- ---- several numbers read, from the first on

module _ (w n : ℕ) (bs : List ℕ) where
  pub length_from : (p : ℕ) → length (numbers_from w n p bs) ≡ n
  unfolding numbers_from
  length_from p = go n p
    where
      go : (m p : ℕ) → length (numbers_from w m p bs) ≡ m
      go zero p = refl
      go (suc m) p = ap suc (go m (p + w))

  module _ (d : List ℕ) where
    pub from_begun : (p : ℕ) → length d ≡ n → over d 0 (numbers_from w n p bs) ≡ numbers_from w n p bs
    from_begun p h = over_all d (numbers_from w n p bs) (length_from p ∙ sym h)

    pub from_turn : (i p q v : ℕ) → i < n → i < length d → q ≡ p + w → v ≡ number_at w p bs
        → over (set d i v) (i + 1) (numbers_from w (n - (i + 1)) q bs) ≡ over d i (numbers_from w (n - i) p bs)
    unfolding numbers_from
    from_turn i p q v h k e f =
        let z : n - i ≡ suc (n - (i + 1)) = omega arith in
        rw (z, add-one, e, f) (over_cons d i (number_at w p bs) (numbers_from w (n - suc i) (p + w) bs) k)

    pub from_done : (i p : ℕ) → n ≤ i → over d i (numbers_from w (n - i) p bs) ≡ d
    unfolding numbers_from
    from_done i p h = let z : n - i ≡ 0 = omega arith in rw z (over_nil d i)
