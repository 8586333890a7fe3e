-- Digits to a base: the number of a number's digits is the number, the digits of a number of digits are those digits; once over base and count.
use Prim.Native.Nat.{ℕ, zero, suc, ◌+◌, ◌-◌, ◌*◌, ◌/◌, ◌%◌, ◌^◌, ◌<◌, ◌≤◌}
use mathlib.Core.Path.{◌≡◌, refl, sym, ap, ◌∙◌}
use mathlib.Core.List.{List, [], ◌∷◌, ◌++◌, reverse, reverse_aux, reverse-append, reverse-reverse}
use native.Mathlib.Nat.{div-add-mod', div-lt_iff_lt-mul, mod-lt, pow-suc, pow-succ', pow-zero, pow-le-pow_right, mul-le-mul_right, mul_assoc, lt_of_lt_of_le, mul-add-div_right, mul-add-mod_self_right, div-eq_of_lt, mod-eq_of_lt, add-zero, div-one, div-div-eq-div-mul}
use native.Mathlib.Numerals.{add-one}
use native.Mathlib.Omega.{arith}
use lib.ListN.{length, take, drop, set, get_or, length-append, length-drop, length-reverse}
use lib.Seq.{take-suc, take_all, get_or-drop, length-take-le}
use borrow.Author.Tests.{ltb-true, ltb-false}
use Rattle.laws.specs.Choice.{when◌then◌else◌, ◌<?◌}
use Rattle.laws.specs.Overwrite.{over}
use Rattle.laws.specs.Digits.{digits_of, number_from, low_first, from_low}
use Rattle.laws.proofs.Cases.{by_test, if_lt, if_ge}
use Rattle.laws.proofs.Overwriting.{over_snoc}

pub number_snoc : (b a : ℕ) (ds : List ℕ) (d : ℕ) → number_from b a (ds ++ (d ∷ [])) ≡ number_from b a ds * b + d
unfolding number_from
number_snoc b a [] d = refl
number_snoc b a (e ∷ ds) d = number_snoc b (a * b + e) ds d

pub length_digits : (b n x : ℕ) → length (digits_of b n x) ≡ n
unfolding digits_of
length_digits b zero x = refl
length_digits b (suc n) x = omega (arith, length-append (digits_of b n (x / b)) (x % b ∷ []), length_digits b n (x / b))

-- the number of a number's digits is the number
pub number_of_digits : (b n x : ℕ) → 0 < b → x < b ^ n → number_from b 0 (digits_of b n x) ≡ x
unfolding digits_of number_from
number_of_digits b zero x hb h = omega (arith, pow-zero b)
number_of_digits b (suc n) x hb h =
    let below : x / b < b ^ n = (div-lt_iff_lt-mul hb).1 (rw pow-suc at h) in
    number_snoc b 0 (digits_of b n (x / b)) (x % b) ∙ rw (number_of_digits b n (x / b) hb below) (div-add-mod' x b)

snoc_below : (b d : ℕ) (l : List ℕ) (i : ℕ) → 0 < b → d < b → get_or l i 0 < b → get_or (l ++ (d ∷ [])) i 0 < b
snoc_below b d [] zero h hd p = hd
snoc_below b d [] (suc i) h hd p = h
snoc_below b d (x ∷ l) zero h hd p = p
snoc_below b d (x ∷ l) (suc i) h hd p = snoc_below b d l i h hd p

-- each digit is below the base, and what is past them is 0
pub digit_below : (b n x i : ℕ) → 0 < b → get_or (digits_of b n x) i 0 < b
unfolding digits_of
digit_below b zero x i h = h
digit_below b (suc n) x i h = snoc_below b (x % b) (digits_of b n (x / b)) i h (mod-lt x h) (digit_below b n (x / b) i h)

-- digits: each below the base
abbrev pub Below : ℕ → List ℕ → Type 0
Below b [] = Unit {0}
Below b (d ∷ ds) = (d < b) × Below b ds

pub below_all : (b : ℕ) (ds : List ℕ) → ((i : ℕ) → i < length ds → get_or ds i 0 < b) → Below b ds
below_all b [] h = tt
below_all b (d ∷ ds) h = (h 0 (omega arith), below_all b ds (λ i hi. h (suc i) (omega arith)))

below_at : (b : ℕ) (ds : List ℕ) (i : ℕ) → i < length ds → Below b ds → get_or ds i 0 < b
below_at b [] i hi h = absurd (omega arith)
below_at b (d ∷ ds) zero hi h = h.0
below_at b (d ∷ ds) (suc i) hi h = below_at b ds i (omega arith) h.1

below_take : (b n : ℕ) (ds : List ℕ) → Below b ds → Below b (take n ds)
below_take b zero ds h = tt
below_take b (suc n) [] h = tt
below_take b (suc n) (d ∷ ds) h = (h.0, below_take b n ds h.1)

below_aux : (b : ℕ) (ds es : List ℕ) → Below b ds → Below b es → Below b (reverse_aux ds es)
below_aux b [] es h k = k
below_aux b (d ∷ ds) es h k = below_aux b ds (d ∷ es) h.1 (h.0, k)

pub below_reverse : (b : ℕ) (ds : List ℕ) → Below b ds → Below b (reverse ds)
below_reverse b ds h = below_aux b ds [] h tt

pub number_below : (b a : ℕ) (ds : List ℕ) → Below b ds → number_from b a ds < (a + 1) * b ^ length ds
unfolding number_from
number_below b a [] h = rw pow-zero (omega arith)
number_below b a (d ∷ ds) h =
    let ih : number_from b (a * b + d) ds < (a * b + d + 1) * b ^ length ds = number_below b (a * b + d) ds h.1 in
    let hd : d < b = h.0 in
    let step : a * b + d + 1 ≤ (a + 1) * b = omega arith in
    let more : (a * b + d + 1) * b ^ length ds ≤ ((a + 1) * b) * b ^ length ds = mul-le-mul_right (b ^ length ds) step in
    rw (pow-succ' b (length ds), ← mul_assoc (a + 1) b (b ^ length ds)) (lt_of_lt_of_le ih more)

-- the digits of a number of digits are those digits
pub digits_of_number : (b n : ℕ) (ds : List ℕ) → length ds ≡ n → Below b ds → digits_of b n (number_from b 0 ds) ≡ ds
unfolding digits_of
digits_of_number b zero [] e h = refl
digits_of_number b zero (d ∷ ds) e h = absurd (omega arith)
digits_of_number b (suc n) ds e h =
    let hd : get_or ds n 0 < b = below_at b ds n (omega arith) h in
    let pos : 0 < b = omega arith in
    let split : ds ≡ take n ds ++ (get_or ds n 0 ∷ []) = sym (take_all (suc n) ds (omega arith)) ∙ take-suc ds n 0 (omega arith) in
    let short : length (take n ds) ≡ n = length-take-le n ds (omega arith) in
    let x : number_from b 0 ds ≡ number_from b 0 (take n ds) * b + get_or ds n 0 =
    ap (λ (l : List ℕ). number_from b 0 l) split ∙ number_snoc b 0 (take n ds) (get_or ds n 0) in
    let q : number_from b 0 ds / b ≡ number_from b 0 (take n ds) =
    rw (x, mul-add-div_right pos (number_from b 0 (take n ds)) (get_or ds n 0), div-eq_of_lt hd, add-zero) in
    let r : number_from b 0 ds % b ≡ get_or ds n 0 = rw (x, mul-add-mod_self_right (number_from b 0 (take n ds)) b (get_or ds n 0), mod-eq_of_lt hd) in
    rw (q, r, digits_of_number b n (take n ds) short (below_take b n ds h)) (sym split)

-- a turn of the loop that reads digits
pub number_turn : (b s i : ℕ) (a : List ℕ) → s + i < length a
    → number_from b 0 (take i (drop s a)) * b + get_or a (s + i) 0 ≡ number_from b 0 (take (i + 1) (drop s a))
number_turn b s i a h =
    sym (rw (add-one, take-suc (drop s a) i 0 (simp length-drop (omega arith)), number_snoc, get_or-drop))

-- a turn of the loop that writes digits, the last one first
pub digits_turn : (s b i x : ℕ) (a : List ℕ) → 0 < i → s + i ≤ length a
    → over (set a (s + (i - 1)) (x % b)) s (digits_of b (i - 1) (x / b)) ≡ over a s (digits_of b i x)
unfolding digits_of
digits_turn s b zero x a h p = absurd (omega arith)
digits_turn s b (suc n) x a h p =
    let e : suc n - 1 ≡ n = omega arith in
    let l = length_digits b n (x / b) in
    rw e (rw l at (over_snoc a s (x % b) (digits_of b n (x / b)) (omega (arith, l))))

-- what is read of cells below 2 ^ 32 stays below 2 ^ 64 while the base's power is at most 2 ^ 32
pub number_bound : (n b d i : ℕ) → n + 4294967295 ≤ 4294967295 * b ^ i → 2 ≤ b → d < 4294967296 → n * b + d + 4294967295 ≤ 4294967295 * b ^ (i + 1)
number_bound n b d i h hb hd =
    let p : (n + 4294967295) * b ≤ (4294967295 * b ^ i) * b = mul-le-mul_right b h in
    rw (add-one, pow-suc) (omega arith)

pub turn_fits : (n b d i count : ℕ) → n + 4294967295 ≤ 4294967295 * b ^ i → 2 ≤ b → i < count → b ^ count ≤ 4294967296 → d < 4294967296
    → n * b + d < 18446744073709551616
turn_fits n b d i count h hb hi hc hd =
    let pos : 0 < b = omega arith in
    let le : i + 1 ≤ count = omega arith in
    let p : b ^ (i + 1) ≤ b ^ count = pow-le-pow_right pos le in
    omega (arith, number_bound n b d i h hb hd)

-- ---- bytes, lowest first

suc_test : (i n x y : ℕ) → (when i <? n then x else y) ≡ (when suc i <? suc n then x else y)
suc_test i n x y =
    by_test (i <? n)
    (λ e. let h = ltb-true i n e in rw (if_lt i n x y h) (sym (if_lt (suc i) (suc n) x y (omega arith))))
    (λ e. let h = ltb-false i n e in rw (if_ge i n x y h) (sym (if_ge (suc i) (suc n) x y (omega arith))))

pub low_suc : (n x : ℕ) → low_first (suc n) x ≡ x % 256 ∷ low_first n (x / 256)
unfolding low_first digits_of
low_suc n x = reverse-append (digits_of 256 n (x / 256)) (x % 256 ∷ [])

pub length_low : (n x : ℕ) → length (low_first n x) ≡ n
unfolding low_first digits_of
length_low zero x = refl
length_low (suc n) x = rw (low_suc n x) (ap suc (length_low n (x / 256)))

pub number_of_low : (n x : ℕ) → x < 256 ^ n → from_low (low_first n x) ≡ x
unfolding from_low low_first
number_of_low n x h = rw reverse-reverse (number_of_digits 256 n x (omega arith) h)

pub low_of_number : (bs : List ℕ) → Below 256 bs → low_first (length bs) (from_low bs) ≡ bs
unfolding from_low low_first
low_of_number bs h =
    rw (digits_of_number 256 (length bs) (reverse bs) (length-reverse bs) (below_reverse 256 bs h)) (reverse-reverse bs)

-- so many bytes hold a number below the power
pub low_below : (bs : List ℕ) → Below 256 bs → from_low bs < 256 ^ length bs
unfolding from_low
low_below bs h = rw (← length-reverse bs) (omega (arith, number_below 256 0 (reverse bs) (below_reverse 256 bs h)))

-- a byte of a number; those past its count are 0
pub low_at : (n x i : ℕ) → get_or (low_first n x) i 0 ≡ (when i <? n then x / 256 ^ i % 256 else 0)
unfolding low_first digits_of
low_at zero x i = sym (if_ge i 0 _ _ (omega arith))
low_at (suc n) x zero = rw (low_suc n x, if_lt 0 (suc n) (x / 256 ^ 0 % 256) 0 (omega arith), pow-zero, div-one)
low_at (suc n) x (suc i) = rw (low_suc n x, low_at n (x / 256) i, div-div-eq-div-mul, ← pow-succ' 256 i) (suc_test i n _ _)

-- at most four bytes are read one by one
pub four_low : (bs : List ℕ) → length bs ≤ 4
    → from_low bs ≡ get_or bs 0 0 + 256 * get_or bs 1 0 + 65536 * get_or bs 2 0 + 16777216 * get_or bs 3 0
unfolding from_low number_from
four_low [] h = refl
four_low (a ∷ []) h = omega arith
four_low (a ∷ b ∷ []) h = omega arith
four_low (a ∷ b ∷ c ∷ []) h = omega arith
four_low (a ∷ b ∷ c ∷ d ∷ []) h = omega arith
four_low (a ∷ b ∷ c ∷ d ∷ e ∷ bs) h = absurd (omega arith)
