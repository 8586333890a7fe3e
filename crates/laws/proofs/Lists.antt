-- Lists read at a place: past the end, in a join, in a part; and what it takes for two parts to be the same.
use Prim.Native.Nat.{ℕ, zero, suc, ◌+◌, ◌-◌, ◌≤◌, ◌<◌}
use mathlib.Core.Path.{◌≡◌}
use mathlib.Core.List.{List, [], ◌∷◌, ◌++◌, append-nil}
use native.Mathlib.Omega.{arith}
use native.Mathlib.Nat.{zero-add, suc-add, le_of_suc-le-suc, not-suc-le-zero}
use lib.ListN.{length, take, drop, get_or, length-take, length-drop, drop_of_length-le, get_or-eq_default, get_or-append}
use lib.Seq.{take-nil, drop-nil, take-take, drop-drop, take_all, get_or-take, get_or-drop}
use borrow.Author.Tests.{ltb-true, ltb-false}
use Rattle.laws.specs.Choice.{when◌then◌else◌, ◌<?◌}
use Rattle.laws.specs.Bytes.{byte_at, word_at}
use Rattle.laws.specs.Parts.{part_at}
use Rattle.laws.proofs.Cases.{by_test, if_lt, if_ge}

-- past the end
pub byte_past : (s : List ℕ) (at : ℕ) → length s ≤ at → byte_at s at ≡ 0
byte_past s at h = get_or-eq_default s 0 {n = at} h

pub word_past : (s : List ℕ) (at : ℕ) → length s ≤ at → word_at s at ≡ 0
unfolding word_at
word_past s at h = omega (arith, byte_past s at h, byte_past s (at + 1) (omega arith))

-- in a join
pub get_or_left : (s t : List ℕ) (i d : ℕ) → i < length s → get_or (s ++ t) i d ≡ get_or s i d
get_or_left s t i d p = get_or-append s t d i p

pub get_or_right : (s t : List ℕ) (i d : ℕ) → length s ≤ i → get_or (s ++ t) i d ≡ get_or t (i - length s) d
get_or_right [] t i d p = let e : i - 0 ≡ i = omega arith in rw e
get_or_right (x ∷ s) t zero d p = absurd (not-suc-le-zero p)
get_or_right (x ∷ s) t (suc i) d p = let e : suc i - suc (length s) ≡ i - length s = omega arith in rw e (get_or_right s t i d (le_of_suc-le-suc p))

pub drop_take : (n k : ℕ) (l : List ℕ) → drop n (take (n + k) l) ≡ take k (drop n l)
drop_take zero k l = rw zero-add
drop_take (suc n) k [] = simp (take-nil, drop-nil)
drop_take (suc n) k (x ∷ l) = rw suc-add (drop_take n k l)

-- parts that end by e are settled by the first e elements, and parts from e on by the others
pub part_before : (at n e : ℕ) (l m : List ℕ) → at + n ≤ e → take e l ≡ take e m → part_at at n l ≡ part_at at n m
part_before at n e l m h q =
    rw (← drop_take at n l, ← drop_take at n m, ← take-take (at + n) e l h, ← take-take (at + n) e m h, q)

pub part_after_lem : (at n e : ℕ) (l m : List ℕ) → e ≤ at → drop e l ≡ drop e m → part_at at n l ≡ part_at at n m
part_after_lem at n e l m h q =
    let s : e + (at - e) ≡ at = omega arith in
    rw (← s, ← drop-drop (at - e) e l, ← drop-drop (at - e) e m, q)

-- an element of a part: 0 past its end
pub part_at_lem : (at n i : ℕ) (s : List ℕ) → get_or (part_at at n s) i 0 ≡ (when i <? n then get_or s (at + i) 0 else 0)
part_at_lem at n i s =
    by_test (i <? n)
    (λ e. let h = ltb-true i n e in rw (get_or-take n (drop at s) i 0 h, get_or-drop, if_lt i n (get_or s (at + i) 0) 0 h))
    (λ e.
    let h = ltb-false i n e in
    rw (if_ge i n (get_or s (at + i) 0) 0 h) (get_or-eq_default (part_at at n s) 0 {n = i} (omega (arith, length-take n (drop at s)))))

-- a part from a place to the end: what is lent, and the whole once it is back
pub part_tail : (at : ℕ) (s : List ℕ) → take (length s - at) (drop at s) ≡ drop at s
part_tail at s = take_all (length s - at) (drop at s) (simp length-drop (omega arith))

pub tail_back : (at : ℕ) (s t : List ℕ) → take at s ++ (t ++ drop (length s - at) (drop at s)) ≡ take at s ++ t
tail_back at s t =
    rw (drop_of_length-le (drop at s) {i = length s - at} (simp length-drop (omega arith)), append-nil)
