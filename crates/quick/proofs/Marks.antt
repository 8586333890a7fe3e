-- Marks on the sheet's bytes: a field whose bytes are free is apart from every field whose bytes are marked.
use Prim.Native.Nat.{ℕ, ◌+◌, ◌-◌, ◌*◌, ◌/◌, ◌%◌, ◌^◌, ◌≤◌, ◌<◌, max}
use mathlib.Core.Path.{◌≡◌, refl, sym, ap, ◌∙◌}
use mathlib.Core.Bool.{Bool, true}
use mathlib.Core.List.{List, [], ◌∷◌, ◌++◌}
use native.Mathlib.Omega.{arith}
use lib.ListN.{length, get_or, set}
use lib.Bits.{bit_or, or_step, or_shr, or_zero_r, or_block, and_mask, mask_lt}
use lib.Pow.{shl_exact, shl-shr, split, ones_lt}
use lib.Seq.{get_or-set_same, get_or-set_other}
use borrow.Author.Tests.{leb-true, leb-false, eqb-true, eqb-false}
use Rattle.laws.specs.Choice.{◌=?◌, ◌≤?◌}
use Rattle.laws.proofs.Cases.{if_ind, by_test, and_i}
use Rattle.acceptance.specs.declared.index.Entry.{Entry}
use Rattle.acceptance.specs.Check.{apart, apart_from}
use Rattle.quick.specs.Accept.{mark_at, Claimed, Covers}

-- every byte of an entry is marked, or none is
abbrev AllMarked : List ℕ → Entry → Type 0
AllMarked m e = (i : ℕ) → e.from.0 ≤ i → i < e.from.0 + e.size → mark_at m i ≡ 1

abbrev AllFree : List ℕ → Entry → Type 0
AllFree m e = (i : ℕ) → e.from.0 ≤ i → i < e.from.0 + e.size → mark_at m i ≡ 1 → ⊥

-- no byte is marked and free
apart_of : (m : List ℕ) (e f : Entry) → AllFree m e → AllMarked m f → apart e f ≡ true
unfolding apart
apart_of m e f a b =
    if_ind P (e.size =? 0) (λ _. refl)
    (λ x. if_ind P (f.size =? 0) (λ _. refl)
    (λ y. if_ind P ((e.from.0 + e.size) ≤? f.from.0) (λ _. refl)
    (λ u. by_test ((f.from.0 + f.size) ≤? e.from.0) (λ v. v)
    (λ v. absurd (shared (eqb-false e.size 0 x) (eqb-false f.size 0 y) (leb-false (e.from.0 + e.size) f.from.0 u) (leb-false (f.from.0 + f.size) e.from.0 v))))))
  where
    P : Bool → Type 0
    P t = t ≡ true

    shared : (e.size ≡ 0 → ⊥) → (f.size ≡ 0 → ⊥) → f.from.0 < e.from.0 + e.size → e.from.0 < f.from.0 + f.size → ⊥
    shared x y u v =
        by_test (e.from.0 ≤? f.from.0)
        (λ o. let l = leb-true e.from.0 f.from.0 o in a f.from.0 l u (b f.from.0 (omega arith) (omega arith)))
        (λ o. let l = leb-false e.from.0 f.from.0 o in a e.from.0 (omega arith) (omega arith) (b e.from.0 (omega arith) v))

pub covers_apart : (m : List ℕ) (e : Entry) {es : List Entry} → Covers m es → AllFree m e → apart_from e es ≡ true
unfolding apart_from
covers_apart m e Covers.none a = refl
covers_apart m e (Covers.add {e = f} b c) a = and_i (apart_of m e f a b) (covers_apart m e c a)

-- marks that stay, and one entry more
pub covers_kept : (m n : List ℕ) {es : List Entry} → ((i : ℕ) → mark_at m i ≡ 1 → mark_at n i ≡ 1) → Covers m es → Covers n es
covers_kept m n k Covers.none = Covers.none
covers_kept m n k (Covers.add b c) = Covers.add (λ i x y. k i (b i x y)) (covers_kept m n k c)

pub covers_add : (m : List ℕ) (e : Entry) {es : List Entry} → Covers m es → AllMarked m e → Covers m (es ++ (e ∷ []))
covers_add m e Covers.none a = Covers.add a Covers.none
covers_add m e (Covers.add b c) a = Covers.add b (covers_add m e c a)

-- ---- the bits of a word

-- a bit of two words' union is set where it is set in one of them
or_odd : (a b : ℕ) → bit_or a b % 2 ≡ max (a % 2) (b % 2)
or_odd a b = omega (arith, or_step a b)

or_bit : (k a b : ℕ) → bit_or a b / 2 ^ k % 2 ≡ max (a / 2 ^ k % 2) (b / 2 ^ k % 2)
or_bit k a b = ap (λ (x : ℕ). x % 2) (or_shr a b k) ∙ or_odd (a / 2 ^ k) (b / 2 ^ k)

-- the word with one bit
pub one_bit : (k : ℕ) → k < 64 → (1 * 2 ^ k) % 2 ^ 64 / 2 ^ k % 2 ≡ 1
one_bit k h = rw (shl_exact {a = 1} 1 k 64 (omega arith) (omega arith), shl-shr 1 k) refl

-- a number with nothing above so many bits
pub low_bits : (x k : ℕ) → x / 2 ^ k ≡ 0 → x < 2 ^ k
low_bits x k e =
    let z : 0 * 2 ^ k ≡ 0 = omega arith in
    omega (arith, rw (e, z) at (split x k), rw (and_mask x k) at (mask_lt x k))

-- a word that has a bit stays as it is where the bit is put in
has_lowest : (a : ℕ) → a % 2 ≡ 1 → bit_or a 1 ≡ a
has_lowest a h = or_step a 1 ∙ rw (or_zero_r (a / 2), h) (omega arith)

has_bit : (k w : ℕ) → w / 2 ^ k % 2 ≡ 1 → bit_or w (1 * 2 ^ k) ≡ w
has_bit k w h =
    let one : 1 * 2 ^ k ≡ 1 * 2 ^ k + 0 = omega arith in
    ap (λ (x : ℕ). bit_or x (1 * 2 ^ k)) (sym (split w k))
    ∙ ap (λ (y : ℕ). bit_or (w / 2 ^ k * 2 ^ k + w % 2 ^ k) y) one
    ∙ or_block k (w / 2 ^ k) 1 (w % 2 ^ k) 0 (rw (and_mask w k) at (mask_lt w k)) (omega (arith, ones_lt k))
    ∙ rw (has_lowest (w / 2 ^ k) h, or_zero_r (w % 2 ^ k)) (split w k)

pub has_mark : (k w : ℕ) → k < 64 → w / 2 ^ k % 2 ≡ 1 → bit_or w ((1 * 2 ^ k) % 2 ^ 64) ≡ w
has_mark k w h b = rw (shl_exact {a = 1} 1 k 64 (omega arith) (omega arith)) (has_bit k w b)

-- ---- claiming byte by byte

-- nothing is claimed yet
pub claimed_none : (extent : ℕ) (m : List ℕ) (from : ℕ) → from ≤ extent → Claimed extent m m from 0
claimed_none extent m from h = record {
  inside = omega arith;
  free = λ i a b. absurd (omega arith);
  marked = λ i a b. absurd (omega arith);
  kept = λ i a. a;
}

-- one byte more, which was free
module _ (extent : ℕ) (old new : List ℕ) (from i y : ℕ) (l : i / 64 < length new) (b : y / 2 ^ (i % 64) % 2 ≡ 1) where
  abbrev next : List ℕ
  next = set new (i / 64) (bit_or (get_or new (i / 64) 0) y)

  here : mark_at next i ≡ 1
  unfolding mark_at
  here =
      rw (get_or-set_same new (i / 64) (bit_or (get_or new (i / 64) 0) y) 0 l, or_bit (i % 64) (get_or new (i / 64) 0) y, b)
      (let z : get_or new (i / 64) 0 / 2 ^ (i % 64) % 2 ≤ 1 = omega arith in omega arith)

  stays : (j : ℕ) → mark_at new j ≡ 1 → mark_at next j ≡ 1
  unfolding mark_at
  stays j m =
      by_test (i / 64 =? (j / 64))
      (λ e. let q = eqb-true (i / 64) (j / 64) e in
      let m' : get_or new (i / 64) 0 / 2 ^ (j % 64) % 2 ≡ 1 = rw q m in
      rw (← q, get_or-set_same new (i / 64) (bit_or (get_or new (i / 64) 0) y) 0 l, or_bit (j % 64) (get_or new (i / 64) 0) y, m')
      (let z : y / 2 ^ (j % 64) % 2 ≤ 1 = omega arith in omega arith))
      (λ e. let q = eqb-false (i / 64) (j / 64) e in get_or_other (λ z. q (sym z)) j m)
    where
      get_or_other : {k : ℕ} → (k ≡ i / 64 → ⊥) → (j : ℕ) → get_or new k 0 / 2 ^ (j % 64) % 2 ≡ 1 → get_or next k 0 / 2 ^ (j % 64) % 2 ≡ 1
      get_or_other {k} d j m = rw (get_or-set_other new (i / 64) k (bit_or (get_or new (i / 64) 0) y) 0 d) m

  claimed_next : from ≤ i → i < extent → (mark_at new i ≡ 1 → ⊥) → Claimed extent old new from (i - from) → Claimed extent old next from ((i + 1) - from)
  claimed_next h s z c = record { inside = omega arith; free = free; marked = marked; kept = λ j m. stays j (c.kept j m) }
    where
      free : (j : ℕ) → from ≤ j → j < from + ((i + 1) - from) → mark_at old j ≡ 1 → ⊥
      free j a d m =
          by_test (i =? j)
          (λ e. z (c.kept i (rw (eqb-true i j e) m)))
          (λ e. let q = eqb-false i j e in c.free j a (omega arith) m)

      marked : (j : ℕ) → from ≤ j → j < from + ((i + 1) - from) → mark_at next j ≡ 1
      marked j a d =
          by_test (i =? j)
          (λ e. rw (← eqb-true i j e) here)
          (λ e. let q = eqb-false i j e in stays j (c.marked j a (omega arith)))

-- the bytes so far, and one more by itself
pub claimed_then :
    {extent : ℕ} {old mid new : List ℕ} {from i : ℕ} → from ≤ i → Claimed extent old mid from (i - from) → Claimed extent mid new i 1 → Claimed extent old new from ((i + 1) - from)
claimed_then {extent} {old} {mid} {new} {from} {i} h c d = record {
  inside = omega (arith, d.inside);
  free = λ j a b m. by_test (i ≤? j)
      (λ e. let l = leb-true i j e in d.free j l (omega arith) (c.kept j m))
      (λ e. let l = leb-false i j e in c.free j a (omega arith) m);
  marked = λ j a b. by_test (i ≤? j)
      (λ e. let l = leb-true i j e in d.marked j l (omega arith))
      (λ e. let l = leb-false i j e in d.kept j (c.marked j a (omega arith)));
  kept = λ j m. d.kept j (c.kept j m);
}

-- one byte by itself
pub claimed_one :
    (extent : ℕ) (m : List ℕ) (i y : ℕ) → i / 64 < length m → y / 2 ^ (i % 64) % 2 ≡ 1 → i < extent → (mark_at m i ≡ 1 → ⊥) →
    Claimed extent m (set m (i / 64) (bit_or (get_or m (i / 64) 0) y)) i 1
claimed_one extent m i y l b s z =
    let none : i - i ≡ 0 = omega arith in
    let one : (i + 1) - i ≡ 1 = omega arith in
    rw one at (claimed_next extent m m i i y l b (omega arith) s z (rw none (claimed_none extent m i (omega arith))))
