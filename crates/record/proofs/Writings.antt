-- The bytes that are a number are its groups: each number up to 65,535 has one writing, and larger ones have none.
use Prim.Native.Nat.{ℕ, ◌/◌, ◌%◌, ◌≤◌, ◌<◌}
use mathlib.Core.Path.{◌≡◌, ◌∙◌}
use mathlib.Core.Logic.{◌↔◌}
use mathlib.Core.List.{List, [], ◌∷◌}
use native.Mathlib.Omega.{arith}
use lib.ListN.{length, drop, get_or}
use Rattle.std.proofs.Common.{Some}
use Rattle.laws.specs.Digits.{number_from}
use Rattle.record.specs.Numbers.{most_number, top_bit, SevenBits, topped, Written, encoded, number_at}
use Rattle.record.specs.Promises.{Bytes, NumberIn}
use Rattle.record.proofs.Groups.{by_groups, one_group, two_groups, three_groups}
use Rattle.record.proofs.Readings.{only_written, read_written}

-- the groups of a number are a writing of it
module _ (n : ℕ) (small : n ≤ most_number) where
  in_one : n < 128 → Written n (encoded n)
  unfolding topped number_from
  in_one h =
      record {
        groups = n ∷ [];
        bits = (h, tt);
        value = omega arith;
        bytes = one_group n h;
        some = omega arith;
        leading = λ k. absurd (omega arith);
        few = omega arith;
        small = small;
      }

  in_two : 128 ≤ n → n < 16384 → Written n (encoded n)
  unfolding topped number_from
  in_two h k =
      record {
        groups = n / 128 ∷ n % 128 ∷ [];
        bits = (omega arith, (omega arith, tt));
        value = omega arith;
        bytes = two_groups n h k;
        some = omega arith;
        leading = λ l. omega arith;
        few = omega arith;
        small = small;
      }

  in_three : 16384 ≤ n → Written n (encoded n)
  unfolding topped number_from
  in_three h =
      record {
        groups = n / 16384 ∷ n / 128 % 128 ∷ n % 128 ∷ [];
        bits = (omega arith, (omega arith, (omega arith, tt)));
        value = omega arith;
        bytes = three_groups n h;
        some = omega arith;
        leading = λ l. omega arith;
        few = omega arith;
        small = small;
      }

  pub groups_written : Written n (encoded n)
  groups_written = by_groups n in_one in_two in_three

-- groups that keep the rule are those of their number
topped_groups : (n : ℕ) (gs : List ℕ) → SevenBits gs → number_from top_bit 0 gs ≡ n → 1 ≤ length gs
    → (1 < length gs → 0 < get_or gs 0 0) → length gs ≤ 3 → topped gs ≡ encoded n
unfolding topped number_from
topped_groups n [] b v s l f = absurd (omega arith)
topped_groups n (x ∷ []) b v s l f =
    let e : x ≡ n = omega arith in
    rw (e, one_group n (omega arith))
topped_groups n (x ∷ y ∷ []) b v s l f =
    let h = l (omega arith) in
    let p : x ≡ n / 128 = omega arith in
    let q : y ≡ n % 128 = omega arith in
    rw (p, q, two_groups n (omega arith) (omega arith))
topped_groups n (x ∷ y ∷ z ∷ []) b v s l f =
    let h = l (omega arith) in
    let p : x ≡ n / 16384 = omega arith in
    let q : y ≡ n / 128 % 128 = omega arith in
    let r : z ≡ n % 128 = omega arith in
    rw (p, q, r, three_groups n (omega arith))
topped_groups n (x ∷ y ∷ z ∷ w ∷ gs) b v s l f = absurd (omega arith)

-- so that a writing has no other bytes
only_groups : (n : ℕ) (b : List ℕ) → Written n b → b ≡ encoded n
only_groups n b w = w.bytes ∙ topped_groups n w.groups w.bits w.value w.some w.leading w.few

-- each number up to 65,535 has exactly one writing
pub is_written : (n : ℕ) (b : List ℕ) → Written n b ↔ ((n ≤ most_number) × (b ≡ encoded n))
is_written n b = (λ w. (w.small, only_groups n b w), λ h. rw h.1 (groups_written n h.0))

module _ (s : List ℕ) (at n next : ℕ) where
  -- a number is read where it is written
  pub read_in : NumberIn s at n next → number_at s at ≡ Some (n, next)
  read_in i =
      let e = only_groups n i.bytes i.written in
      rw (i.ends, e) (read_written s at n (drop next s) i.written.small (i.here ∙ rw e))

  -- and written where it is read
  pub in_read : Bytes s → number_at s at ≡ Some (n, next) → NumberIn s at n next
  in_read bytes e =
      let k = only_written s at n next bytes e in
      record { bytes = encoded n; written = groups_written n k.small; here = k.here; ends = k.behind }
