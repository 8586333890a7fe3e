-- Bounds of the numbers in the tables, and that every numeral is sound: integers and switches are computed within them.
use Prim.Native.Nat.{ℕ, zero, suc, ◌+◌, ◌*◌, ◌/◌, ◌%◌, ◌^◌, ◌≤◌, ◌<◌}
use mathlib.Core.Path.{◌≡◌, refl}
use mathlib.Core.Bool.{Bool, true, false}
use native.Mathlib.Omega.{arith}
use native.Mathlib.Nat.{pow-le-pow_left, pow-le-pow_right, one-le-pow, one-mul, mod-eq_of_lt, pow-suc}
use lib.Pow.{pow-add}
use lib.Dec.{lit≤}
use borrow.Author.Tests.{ltb-true, leb-true, leb-false}
use Rattle.laws.specs.Choice.{when◌then◌else◌, ◌<?◌, ◌≤?◌}
use Rattle.laws.proofs.Cases.{if_ind, if_max, if_min}
use Rattle.field.specs.Formats.{signs_of, digits_in, base_of, limit_of, half_of, top_of, numeral_of, bits_in, bits_of}
use Rattle.field.specs.Profiles.{profile_of}
use Rattle.field.specs.Cells.{distance}
use Rattle.field.specs.Sound.{Sound, Based}
use Rattle.field.specs.declared.kind.Format.{Format}
use Rattle.field.specs.declared.kind.Kind.{Kind}
use Rattle.field.specs.declared.numeral.Numeral.{Numeral}
use Rattle.field.specs.declared.kind.Kind.TheVariants.{Integer, Counter, Time, Date, Switch, Option, Trigger}

-- a number cut to a bound
cut : (n m : ℕ) → (when n <? m then n else m) ≤ m
cut n m = if_ind (λ (x : ℕ). x ≤ m) (n <? m) (λ e. omega (arith, ltb-true n m e)) (λ e. omega arith)

-- at most one sign cell
pub signs_le : (f : Format) → signs_of f ≤ 1
unfolding signs_of
signs_le f = if_max f.signed (lit≤ tt) (lit≤ tt)

-- at most five digit cells
pub digits_le : (f : Format) → digits_in f ≤ 5
unfolding digits_in
digits_le f = cut f.digits 5

-- at most 32 bits
pub bits_le : (n : ℕ) → bits_in n ≤ 32
unfolding bits_in
bits_le n = cut n 32

-- the base is 10 or more
pub base_ge : (f : Format) → 10 ≤ base_of f
unfolding base_of
base_ge f = if_min f.hex (lit≤ tt) (lit≤ tt)

-- the base is 16 or less
pub base_le : (f : Format) → base_of f ≤ 16
unfolding base_of
base_le f = if_max f.hex (lit≤ tt) (lit≤ tt)

-- the base is 10 or 16
base_known : (f : Format) → (base_of f ≡ 10 → ⊥) → (base_of f ≡ 16 → ⊥) → ⊥
unfolding base_of when◌then◌else◌
base_known f = go f.hex
  where
    go : (t : Bool) → ((when◌then◌else◌ {A = ℕ} t 16 10) ≡ 10 → ⊥) → ((when◌then◌else◌ {A = ℕ} t 16 10) ≡ 16 → ⊥) → ⊥
    go true p q = q refl
    go false p q = p refl

-- two bytes hold no more than 65,536 numbers
pub limit_le : (f : Format) → limit_of f ≤ 65536
unfolding limit_of
limit_le f = if_max f.wide (lit≤ tt) (lit≤ tt)

-- a byte holds 256 numbers
pub limit_ge : (f : Format) → 256 ≤ limit_of f
unfolding limit_of
limit_ge f = if_min f.wide (lit≤ tt) (lit≤ tt)

-- as many numbers as the bytes have values
pub limit_bytes : (f : Format) → limit_of f ≡ 256 ^ (profile_of (Integer f)).bytes
unfolding limit_of profile_of when◌then◌else◌
limit_bytes f = go f.wide
  where
    go : (t : Bool) → (when t then 65536 else 256) ≡ 256 ^ (when t then 2 else 1)
    go true = refl
    go false = refl

-- the numbers for 0 and above are among all
pub half_le : (f : Format) → half_of f ≤ limit_of f
unfolding half_of
half_le f = if_max f.signed (omega arith) (omega arith)

-- some number stands for 0
pub half_pos : (f : Format) → 0 < half_of f
unfolding half_of
half_pos f = if_min f.signed (omega (arith, limit_ge f)) (omega (arith, limit_ge f))

-- without a sign no number is below 0
half_plain : (f : Format) → signs_of f ≡ 0 → half_of f ≡ limit_of f
unfolding half_of signs_of when◌then◌else◌
half_plain f e = go f.signed e
  where
    go : (s : Bool) → (when◌then◌else◌ {A = ℕ} s 1 0) ≡ 0 → (when s then limit_of f / 2 else limit_of f) ≡ limit_of f
    go true q = absurd (omega arith)
    go false q = refl

-- what the digit cells can show fits 32 bits
pub top_fits : (f : Format) → base_of f ^ digits_in f ≤ 4294967296
top_fits f =
    let b : base_of f ^ digits_in f ≤ 16 ^ digits_in f = pow-le-pow_left (base_le f) (digits_in f) in
    let d : 16 ^ digits_in f ≤ 16 ^ 5 = pow-le-pow_right (lit≤ tt) (digits_le f) in
    omega arith

-- a shift makes a power of 2
pub shifted : (n : ℕ) → n ≤ 32 → (1 * 2 ^ n) % 18446744073709551616 ≡ 2 ^ n
shifted n h =
    let p : 2 ^ n ≤ 2 ^ 32 = pow-le-pow_right (lit≤ tt) h in
    rw one-mul (mod-eq_of_lt (omega arith))

pub shifted_short : (n : ℕ) → n < 32 → (1 * 2 ^ n) % 4294967296 ≡ 2 ^ n
shifted_short n h =
    let p : 2 ^ n ≤ 2 ^ 31 = pow-le-pow_right (lit≤ tt) {i = n} {j = 31} (omega arith) in
    rw one-mul (mod-eq_of_lt (omega arith))

-- a hexadecimal digit has four bits
pub four_bits : (n : ℕ) → 2 ^ (4 * n) ≡ 16 ^ n
four_bits zero = refl
four_bits (suc n) =
    let e : 4 * suc n ≡ 4 * n + 4 = omega arith in
    rw (e, pow-add 2 (4 * n) 4, pow-suc 16 n, four_bits n)

-- what the bits can show fits 32 bits
pub power_fits : (n : ℕ) → 2 ^ bits_in n ≤ 4294967296
power_fits n =
    let d : 2 ^ bits_in n ≤ 2 ^ 32 = pow-le-pow_right (lit≤ tt) (bits_le n) in
    omega arith

-- the digit cells can show 0
pub top_pos : (f : Format) → 0 < base_of f ^ digits_in f
top_pos f = one-le-pow (digits_in f) (base_of f) (omega (arith, base_ge f))

-- the bits can show 0
pub power_pos : (n : ℕ) → 0 < 2 ^ bits_in n
power_pos n = one-le-pow (bits_in n) 2 (lit≤ tt)

-- an integer's numeral is sound
pub format_sound : (f : Format) → Sound (numeral_of f)
unfolding top_of
format_sound f =
    record {
      two = omega (arith, base_ge f);
      sixteen = base_le f;
      signs = signs_le f;
      cells = omega (arith, signs_le f, digits_le f);
      room = top_fits f;
      limit = omega (arith, limit_le f);
      apart = omega (arith, half_le f, half_pos f);
      above = omega (arith, top_pos f);
      below = omega (arith, top_pos f);
      plain = λ e. omega (arith, half_plain f e);
    }

-- and so is a switch's
pub bits_sound : (n : ℕ) → Sound (bits_of n)
bits_sound n =
    record {
      two = lit≤ tt;
      sixteen = lit≤ tt;
      signs = lit≤ tt;
      cells = omega (arith, bits_le n);
      room = power_fits n;
      limit = lit≤ tt;
      apart = omega (arith, power_fits n, power_pos n);
      above = omega (arith, power_pos n);
      below = power_pos n;
      plain = λ e. refl;
    }

-- both are written to one of the bases
pub format_based : (f : Format) → Based (numeral_of f)
format_based f = record { bases = λ t s. absurd (base_known f t s) }

pub bits_based : (n : ℕ) → Based (bits_of n)
bits_based n = record { bases = λ t s. refl }

-- how far a number is from 0 fits 32 bits
pub distance_small : {n : Numeral} → Sound n → (x : ℕ) → distance n x < 4294967296
unfolding distance
distance_small {n = n} s x =
    if_ind (λ (d : ℕ). d < 4294967296) (x ≤? n.above)
    (λ e. omega (arith, leb-true x n.above e, s.above, s.room))
    (λ e. omega (arith, leb-false x n.above e, s.limit, s.apart))

-- no field has more than four bytes
pub profile_bytes : (k : Kind) → (profile_of k).bytes ≤ 4
unfolding profile_of
profile_bytes (Integer f) = if_max f.wide (lit≤ tt) (lit≤ tt)
profile_bytes (Counter s) = lit≤ tt
profile_bytes (Time long) = if_max long (lit≤ tt) (lit≤ tt)
profile_bytes (Date long) = if_max long (lit≤ tt) (lit≤ tt)
profile_bytes (Switch n) = lit≤ tt
profile_bytes (Option n w) = lit≤ tt
profile_bytes Trigger = lit≤ tt

-- no field has more than 32 cells
pub profile_cells : (k : Kind) → (profile_of k).cells ≤ 32
unfolding profile_of
profile_cells (Integer f) = omega (arith, signs_le f, digits_le f)
profile_cells (Counter s) = lit≤ tt
profile_cells (Time long) = if_max long (lit≤ tt) (lit≤ tt)
profile_cells (Date long) = lit≤ tt
profile_cells (Switch n) = bits_le n
profile_cells (Option n w) = lit≤ tt
profile_cells Trigger = lit≤ tt
