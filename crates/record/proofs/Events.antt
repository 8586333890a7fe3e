-- An event is one group: so the events of a record that is not refused are its bytes from the place of the first on.
use Prim.Native.Nat.{ℕ, zero, suc, ◌+◌, ◌-◌, ◌*◌, ◌≤◌, ◌<◌}
use mathlib.Core.Path.{◌≡◌, refl, sym, ap, ◌∙◌}
use mathlib.Core.Bool.{true, false, false≢true}
use mathlib.Core.List.{List, []}
use native.Mathlib.Omega.{arith}
use native.Mathlib.Numerals.{add-one}
use lib.ListN.{length, drop}
use lib.Seq.{drop-cons, drop-length}
use borrow.Author.Tests.{eqb-true, eqb-false, leb-true, leb-false, ltb-false}
use Rattle.std.proofs.Common.{Option, Some, None}
use Rattle.laws.specs.Choice.{◌and◌, ◌=?◌, ◌<?◌, ◌≤?◌}
use Rattle.laws.specs.Bytes.{byte_at}
use Rattle.laws.proofs.Cases.{if_ind, and_l, and_r}
use Rattle.session.specs.Events.{second}
use Rattle.handset.proofs.Ordering.{none_before, none_unless}
use Rattle.record.specs.Numbers.{number_at, numbers_at, end_after}
use Rattle.record.specs.Forms.{are_events, is_sequence, events_refusal, record_refusal, events_of, start_of}
use Rattle.record.proofs.Steps.{by_read, by_head, head_missing, head_other, head_cut, head_whole, numbers_next, row_next, row_broken, events_next}

-- a number below 128 is its own byte
abbrev OwnByte : List ℕ → ℕ → Option (ℕ × ℕ) → Type 0
OwnByte s at None = Unit {0}
OwnByte s at (Some (x, next)) = x < 128 → (at < length s) × ((byte_at s at ≡ x) × (next ≡ at + 1))

module _ (s : List ℕ) (at : ℕ) where
  own_byte : OwnByte s at (number_at s at)
  unfolding number_at
  own_byte =
      if_ind (OwnByte s at) (length s ≤? at) (λ e. tt)
      (λ e. if_ind (OwnByte s at) (byte_at s at <? 128) (λ a h. (leb-false (length s) at e, (refl, refl)))
      (λ a. if_ind (OwnByte s at) (byte_at s at =? 128) (λ b. tt)
      (λ b. if_ind (OwnByte s at) (length s ≤? (at + 1)) (λ f. tt)
      (λ f. if_ind (OwnByte s at) (byte_at s (at + 1) <? 128) (λ c h. absurd (two h b a)) (λ c.
      if_ind (OwnByte s at) (length s ≤? (at + 2)) (λ g. tt)
      (λ g. if_ind (OwnByte s at) (128 ≤? byte_at s (at + 2)) (λ d. tt)
      (λ d. if_ind (OwnByte s at) (131 <? byte_at s at) (λ k. tt) (λ k h. absurd (three h b a)))))))))
    where
      two : (byte_at s at - 128) * 128 + byte_at s (at + 1) < 128 → byte_at s at =? 128 ≡ false → byte_at s at <? 128 ≡ false → ⊥
      two h b a = omega (arith, eqb-false (byte_at s at) 128 b, ltb-false (byte_at s at) 128 a)

      three : (byte_at s at - 128) * 16384 + (byte_at s (at + 1) - 128) * 128 + byte_at s (at + 2) < 128 → byte_at s at =? 128 ≡ false → byte_at s at <? 128 ≡ false → ⊥
      three h b a = omega (arith, eqb-false (byte_at s at) 128 b, ltb-false (byte_at s at) 128 a)

  one_byte : (x next : ℕ) → number_at s at ≡ Some (x, next) → x < 128 → (at < length s) × ((byte_at s at ≡ x) × (next ≡ at + 1))
  one_byte x next e = rw e at own_byte

-- what the bytes from a place on are, if a row of n events begins there
abbrev RowBytes : List ℕ → ℕ → ℕ → Type 0
RowBytes s n at = is_sequence n s at ≡ true → are_events (numbers_at n s at) ≡ true → (at ≤ length s) × (drop at s ≡ numbers_at n s at)

next_byte : (s : List ℕ) (n at x next : ℕ) → number_at s at ≡ Some (x, next) → RowBytes s n next → RowBytes s (suc n) at
next_byte s n at x next e later r g =
    let z : suc n - 1 ≡ n = omega arith in
    let g' : (x ≤? second) and are_events (numbers_at n s next) ≡ true = rw z at (events_next s x next (suc n) at (omega arith) e ∙ g) in
    let r' : is_sequence n s next ≡ true = rw z at (row_next s x next (suc n) at (omega arith) e ∙ r) in
    let small : x ≤ second = leb-true x second (and_l _ _ g') in
    let b = one_byte s at x next e (omega arith) in
    let d : drop (at + 1) s ≡ numbers_at n s next = ap (λ (k : ℕ). drop k s) (sym b.1.1) ∙ (later r' (and_r _ _ g')).1 in
    (omega arith, drop-cons s at 0 b.0 ∙ rw (← add-one at, numbers_next s x next n at e, b.1.0, d))

-- the numbers of a row of events are its bytes
pub row_bytes : (s : List ℕ) (n at : ℕ) → RowBytes s n at
unfolding is_sequence numbers_at end_after
row_bytes s zero at r g =
    let e : at ≡ length s = eqb-true at (length s) (and_r _ _ r) in
    (omega arith, rw (e, drop-length s))
row_bytes s (suc n) at r g =
    by_read (number_at s at) (λ e. absurd (false≢true (sym (row_broken s (suc n) at (omega arith) e) ∙ r)))
    (λ x next e. next_byte s n at x next e (row_bytes s n next) r g)

-- a row that is not refused
row_granted : (n : ℕ) (s : List ℕ) (at : ℕ) → events_refusal n s at ≡ 0 → (is_sequence n s at ≡ true) × (are_events (numbers_at n s at) ≡ true)
unfolding events_refusal
row_granted n s at z =
    let a = none_before _ _ z in
    (none_unless 16 _ (λ q. omega arith) a.0, none_unless 13 _ (λ q. omega arith) a.1)

-- what a record that is not refused has: its head, and a row of events
pub record Parts (s : List ℕ) : Type 0 where
  pub count : ℕ
  pub start : ℕ
  pub place : ℕ
  pub counted : number_at s place ≡ Some (count, start)
  pub row : is_sequence count s start ≡ true
  pub known : are_events (numbers_at count s start) ≡ true
  pub starts : start_of s ≡ start
  pub events : events_of s ≡ numbers_at count s start

pub parts : (s : List ℕ) → record_refusal s ≡ 0 → Parts s
unfolding record_refusal start_of events_of
parts s z =
    by_head s
    (λ e. absurd (let f = head_missing 16 17 (λ n at. events_refusal n s at) s e in omega arith))
    (λ form at e h. absurd (let f = head_other 16 17 (λ n at. events_refusal n s at) s form at e h in omega arith))
    (λ form at e one k. absurd (let f = head_cut 16 17 (λ n at. events_refusal n s at) s form at e one k in omega arith))
    (λ form at e one n next k.
    let g = row_granted n s next (sym (head_whole 16 17 (λ n at. events_refusal n s at) s form at e one n next k) ∙ z) in
    record {
      count = n;
      start = next;
      place = at;
      counted = k;
      row = g.0;
      known = g.1;
      starts = head_whole 0 0 (λ n at. at) s form at e one n next k;
      events = head_whole [] [] (λ n at. numbers_at n s at) s form at e one n next k;
    })

module _ (s : List ℕ) (z : record_refusal s ≡ 0) where
  -- the events of a record are events
  pub events_known : are_events (events_of s) ≡ true
  events_known = let p = parts s z in rw p.events p.known

  -- and its bytes from the first on
  pub events_part : (start_of s ≤ length s) × (drop (start_of s) s ≡ events_of s)
  events_part =
      let p = parts s z in
      rw (p.starts, p.events) (row_bytes s p.count p.start p.row p.known)
