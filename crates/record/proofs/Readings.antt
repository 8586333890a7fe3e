-- Reading a number is undoing its writing: what stands at a place is read exactly if it is the groups of a number.
use Prim.Native.Nat.{ℕ, ◌+◌, ◌-◌, ◌*◌, ◌/◌, ◌%◌, ◌≤◌, ◌<◌}
use mathlib.Core.Path.{◌≡◌, refl, sym, ap, ◌∙◌}
use mathlib.Core.List.{List, ◌∷◌, ◌++◌}
use native.Mathlib.Omega.{arith}
use native.Mathlib.Numerals.{add-one}
use lib.ListN.{length, take, drop, get_or, length-drop}
use lib.Seq.{drop-cons, drop_at, get_or-drop, length-take-le}
use borrow.Author.Tests.{ltb-true, ltb-false, leb-false, eqb-false}
use Rattle.std.proofs.Common.{Option, Some, None}
use Rattle.laws.specs.Choice.{when◌then◌else◌, ◌≤?◌}
use Rattle.laws.specs.Bytes.{byte_at}
use Rattle.laws.specs.Parts.{put_at}
use Rattle.laws.proofs.Cases.{if_ind, if_lt, if_ge, if_le, if_gt, if_ne}
use Rattle.record.specs.Numbers.{encoded, number_at, second_at}
use Rattle.record.specs.Promises.{Bytes}
use Rattle.record.proofs.Groups.{by_groups, one_group, two_groups, three_groups}

-- the groups of n stand at a place, and next is behind them
pub record Stands (s : List ℕ) (at n next : ℕ) : Type 0 where
  pub here : drop at s ≡ encoded n ++ drop next s
  pub behind : next ≡ at + length (encoded n)
  pub small : n ≤ 65535

-- what a reading says is so
abbrev Right : List ℕ → ℕ → Option (ℕ × ℕ) → Type 0
Right s at None = Unit {0}
Right s at (Some (n, next)) = Stands s at n next

module _ (s : List ℕ) (at : ℕ) where
  one_more : (k : ℕ) (l : List ℕ) → k < length s → drop (k + 1) s ≡ l → drop k s ≡ byte_at s k ∷ l
  one_more k l h e = rw (← e, add-one) (drop-cons s k 0 h)

  stands_one : at < length s → byte_at s at < 128 → Stands s at (byte_at s at) (at + 1)
  stands_one h a =
      record { here = rw (one_group _ a) (one_more at _ h refl); behind = rw (one_group _ a); small = omega arith }

  stands_two : at + 1 < length s → 128 < byte_at s at → byte_at s at < 256 → byte_at s (at + 1) < 128
      → Stands s at ((byte_at s at - 128) * 128 + byte_at s (at + 1)) (at + 2)
  stands_two h a a' b =
      let n = (byte_at s at - 128) * 128 + byte_at s (at + 1) in
      let g = two_groups n (omega arith) (omega arith) in
      let x : 128 + n / 128 ≡ byte_at s at = omega arith in
      let y : n % 128 ≡ byte_at s (at + 1) = omega arith in
      let e : at + 1 + 1 ≡ at + 2 = omega arith in
      record {
        here = rw (g, x, y) (one_more at _ (omega arith) (one_more (at + 1) _ h (rw e)));
        behind = rw g;
        small = omega arith;
      }

  stands_three : at + 2 < length s → 128 < byte_at s at → byte_at s at ≤ 131 → 128 ≤ byte_at s (at + 1) → byte_at s (at + 1) < 256 → byte_at s (at + 2) < 128
      → Stands s at ((byte_at s at - 128) * 16384 + (byte_at s (at + 1) - 128) * 128 + byte_at s (at + 2)) (at + 3)
  stands_three h a a' b b' c =
      let n = (byte_at s at - 128) * 16384 + (byte_at s (at + 1) - 128) * 128 + byte_at s (at + 2) in
      let g = three_groups n (omega arith) in
      let x : 128 + n / 16384 ≡ byte_at s at = omega arith in
      let y : 128 + n / 128 % 128 ≡ byte_at s (at + 1) = omega arith in
      let z : n % 128 ≡ byte_at s (at + 2) = omega arith in
      let e : at + 1 + 1 ≡ at + 2 = omega arith in
      let f : at + 2 + 1 ≡ at + 3 = omega arith in
      record {
        here = rw (g, x, y, z) (one_more at _ (omega arith) (one_more (at + 1) _ (omega arith) (rw e (one_more (at + 2) _ h (rw f)))));
        behind = rw g;
        small = omega arith;
      }

  right : Bytes s → Right s at (number_at s at)
  unfolding number_at
  right bytes =
      if_ind (Right s at) _ (λ e. tt)
      (λ e. let h = leb-false (length s) at e in
      if_ind (Right s at) _ (λ a. stands_one h (ltb-true (byte_at s at) _ a))
      (λ a. let a1 = ltb-false (byte_at s at) _ a in
      if_ind (Right s at) _ (λ a. tt)
      (λ a. let a2 = eqb-false (byte_at s at) _ a in
      if_ind (Right s at) _ (λ e. tt)
      (λ e. let h1 = leb-false (length s) _ e in
      if_ind (Right s at) _ (λ b. let b0 = ltb-true (byte_at s (at + 1)) _ b in stands_two h1 (omega arith) (bytes at) (omega arith))
      (λ b. let b1 = ltb-false (byte_at s (at + 1)) _ b in
      if_ind (Right s at) _ (λ e. tt)
      (λ e. let h2 = leb-false (length s) _ e in
      if_ind (Right s at) _ (λ c. tt)
      (λ c. let c1 = leb-false _ (byte_at s (at + 2)) c in
      if_ind (Right s at) _ (λ a. tt)
      (λ a. let a3 = ltb-false _ (byte_at s at) a in stands_three h2 (omega arith) (omega arith) (omega arith) (bytes (at + 1)) (omega arith)))))))))

  -- the reader accepts nothing but what the writer writes
  pub only_written : (n next : ℕ) → Bytes s → number_at s at ≡ Some (n, next) → Stands s at n next
  only_written n next bytes e = rw e at (right bytes)

  -- a byte of what stands from the place on
  byte_of : (k : ℕ) (l : List ℕ) → drop at s ≡ l → byte_at s (at + k) ≡ get_or l k 0
  byte_of k l e = sym (get_or-drop at s k 0) ∙ ap (λ (t : List ℕ). get_or t k 0) e

  first_of : (l : List ℕ) → drop at s ≡ l → byte_at s at ≡ get_or l 0 0
  first_of l e = let z : at + 0 ≡ at = omega arith in rw z at (byte_of 0 l e)

  within : (k : ℕ) (l : List ℕ) → k < length l → drop at s ≡ l → at + k < length s
  within k l h e = omega (arith, length-drop at s, ap length e)

  reads_one : at < length s → byte_at s at < 128 → number_at s at ≡ Some (byte_at s at, at + 1)
  unfolding number_at
  reads_one h a = if_gt (length s) at _ _ h ∙ if_lt (byte_at s at) 128 _ _ a

  module _ (a : 128 < byte_at s at) where
    goes_on_lem : number_at s at ≡ (when length s ≤? at then None else second_at s at)
    unfolding number_at
    goes_on_lem =
        ap (λ (r : Option (ℕ × ℕ)). when length s ≤? at then None else r) (if_ge (byte_at s at) 128 _ _ (omega arith) ∙ if_ne (byte_at s at) 128 _ _ (λ k. omega arith))

    reads_two : at + 1 < length s → byte_at s (at + 1) < 128
        → number_at s at ≡ Some ((byte_at s at - 128) * 128 + byte_at s (at + 1), at + 2)
    reads_two h b =
        goes_on_lem ∙ if_gt (length s) at _ _ (omega arith) ∙ if_gt (length s) (at + 1) _ _ h ∙ if_lt (byte_at s (at + 1)) 128 _ _ b

    reads_three : at + 2 < length s → byte_at s at ≤ 131 → 128 ≤ byte_at s (at + 1) → byte_at s (at + 2) < 128
        → number_at s at ≡ Some ((byte_at s at - 128) * 16384 + (byte_at s (at + 1) - 128) * 128 + byte_at s (at + 2), at + 3)
    reads_three h a' b c =
        goes_on_lem ∙ if_gt (length s) at _ _ (omega arith) ∙ if_gt (length s) (at + 1) _ _ (omega arith) ∙ if_ge (byte_at s (at + 1)) 128 _ _ b
        ∙ if_gt (length s) (at + 2) _ _ h ∙ if_gt 128 (byte_at s (at + 2)) _ _ c ∙ if_ge 131 (byte_at s at) _ _ a'

  -- reading what was written gives the number and the place behind it
  pub read_written : (n : ℕ) (rest : List ℕ) → n ≤ 65535 → drop at s ≡ encoded n ++ rest → number_at s at ≡ Some (n, at + length (encoded n))
  read_written n rest small e = by_groups n in_one in_two in_three
    where
      in_one : n < 128 → number_at s at ≡ Some (n, at + length (encoded n))
      in_one h =
          let g = one_group n h in
          let d : drop at s ≡ n ∷ rest = rw g at e in
          let x : byte_at s at ≡ n = first_of _ d in
          reads_one (omega (arith, within 0 _ (omega arith) d)) (omega arith) ∙ rw (g, x)

      in_two : 128 ≤ n → n < 16384 → number_at s at ≡ Some (n, at + length (encoded n))
      in_two h k =
          let g = two_groups n h k in
          let d : drop at s ≡ (128 + n / 128) ∷ (n % 128) ∷ rest = rw g at e in
          let x : byte_at s at ≡ 128 + n / 128 = first_of _ d in
          let y : byte_at s (at + 1) ≡ n % 128 = byte_of 1 _ d in
          let v : (byte_at s at - 128) * 128 + byte_at s (at + 1) ≡ n = omega arith in
          reads_two (omega arith) (within 1 _ (omega arith) d) (omega arith) ∙ rw (g, v)

      in_three : 16384 ≤ n → number_at s at ≡ Some (n, at + length (encoded n))
      in_three h =
          let g = three_groups n h in
          let d : drop at s ≡ (128 + n / 16384) ∷ (128 + n / 128 % 128) ∷ (n % 128) ∷ rest = rw g at e in
          let x : byte_at s at ≡ 128 + n / 16384 = first_of _ d in
          let y : byte_at s (at + 1) ≡ 128 + n / 128 % 128 = byte_of 1 _ d in
          let z : byte_at s (at + 2) ≡ n % 128 = byte_of 2 _ d in
          let v : (byte_at s at - 128) * 16384 + (byte_at s (at + 1) - 128) * 128 + byte_at s (at + 2) ≡ n = omega arith in
          reads_three (omega arith) (within 2 _ (omega arith) d) (omega arith) (omega arith) (omega arith) ∙ rw (g, v)

-- read back from where it was written
pub read_back : (at n : ℕ) (s : List ℕ) → n ≤ 65535 → at + length (encoded n) ≤ length s
    → number_at (put_at at (encoded n) s) at ≡ Some (n, at + length (encoded n))
unfolding put_at
read_back at n s small h =
    read_written (put_at at (encoded n) s) at n (drop (at + length (encoded n)) s) small
    (rw (if_le (at + length (encoded n)) (length s) _ _ h) (drop_at (take at s) _ at (length-take-le at s (omega arith))))
