-- Bytes are refused by R45: what holds events is read as them, and what is read as a row after a head holds it.
use Prim.Native.Nat.{ℕ, ◌+◌, ◌≤◌}
use mathlib.Core.Path.{◌≡◌, refl, sym, ap, ◌∙◌}
use mathlib.Core.Bool.{true, false}
use mathlib.Core.List.{List, ◌++◌}
use native.Mathlib.Omega.{arith}
use lib.ListN.{length, drop, length-append}
use Rattle.std.proofs.Common.{Some, None}
use Rattle.laws.proofs.Cases.{by_test}
use Rattle.record.specs.Numbers.{encoded, sequence_of, number_at, numbers_at}
use Rattle.record.specs.Forms.{are_events, record_of, is_sequence, events_refusal, record_refusal, events_of}
use Rattle.record.specs.Promises.{Bytes, Begins, Holds, Judged}
use Rattle.record.proofs.Readings.{only_written, read_written}
use Rattle.record.proofs.Writings.{read_in, in_read}
use Rattle.record.proofs.Sequences.{rest_of, row_whole, row_written}
use Rattle.record.proofs.Steps.{by_read, by_head, head_missing, head_other, head_cut, head_whole, row_refused, row_bad, row_good}

-- ---- the head

module _ (s : List ℕ) where
  -- a form number that is missing or broken
  missing : number_at s 0 ≡ None → record_refusal s ≡ 16
  unfolding record_refusal
  missing e = head_missing _ _ _ s e

  module _ (form at : ℕ) (e : number_at s 0 ≡ Some (form, at)) where
    -- another form
    other : (form ≡ 1 → ⊥) → record_refusal s ≡ 17
    unfolding record_refusal
    other h = head_other _ _ _ s form at e h

    module _ (one : form ≡ 1) where
      -- a number of events that is missing or broken
      cut : number_at s at ≡ None → record_refusal s ≡ 16
      unfolding record_refusal
      cut k = head_cut _ _ _ s form at e one k

      -- a whole head, which leaves it to the row
      on_row : (n start : ℕ) → number_at s at ≡ Some (n, start) → record_refusal s ≡ events_refusal n s start
      unfolding record_refusal
      on_row n start k = head_whole _ _ _ s form at e one n start k

-- ---- what holds events

-- form 1, the number of these events and then they are read
record Reads (s es : List ℕ) : Type 0 where
  pub at : ℕ
  pub start : ℕ
  pub form : number_at s 0 ≡ Some (1, at)
  pub count : number_at s at ≡ Some (length es, start)
  pub row : is_sequence (length es) s start ≡ true
  pub events : numbers_at (length es) s start ≡ es

module _ (s es : List ℕ) (h : Holds s es) where
  -- what holds events is read so
  holds_read : Reads s es
  unfolding record_of sequence_of
  holds_read =
      let n = length es in
      let d : drop 0 s ≡ encoded 1 ++ (encoded n ++ sequence_of es) = h.whole in
      let at = 0 + length (encoded 1) in
      let d' = rest_of s 0 (encoded 1) (encoded n ++ sequence_of es) d in
      let start = at + length (encoded n) in
      let d'' = rest_of s at (encoded n) (sequence_of es) d' in
      let inside : start ≤ length s =
      omega (arith, ap length h.whole, length-append (encoded 1) (encoded n ++ sequence_of es), length-append (encoded n) (sequence_of es)) in
      let r = row_whole s es start h.numbers d'' inside in
      record {
        at = at;
        start = start;
        form = read_written s 0 1 _ (omega arith) d;
        count = read_written s at n (sequence_of es) h.few d';
        row = r.0;
        events = r.1;
      }

  -- and refused as the row of them is
  on_events : record_refusal s ≡ events_refusal (length es) s holds_read.start
  on_events = let r = holds_read in on_row s 1 r.at r.form refl (length es) r.start r.count

  -- its events are these
  pub events_read : events_of s ≡ es
  unfolding events_of
  events_read = let r = holds_read in head_whole _ _ _ s 1 r.at r.form refl (length es) r.start r.count ∙ r.events

  -- good events are not refused
  pub holds_good : are_events es ≡ true → record_refusal s ≡ 0
  holds_good g = let r = holds_read in on_events ∙ sym (row_good s (length es) r.start r.row (ap are_events r.events ∙ g))

  -- bad ones are 13
  pub holds_bad : are_events es ≡ false → record_refusal s ≡ 13
  holds_bad g = let r = holds_read in on_events ∙ sym (row_bad s (length es) r.start r.row (ap are_events r.events ∙ g))

  -- and neither is 16
  not_broken : record_refusal s ≡ 16 → ⊥
  not_broken e = by_test (are_events es) (λ g. omega (arith, holds_good g)) (λ g. omega (arith, holds_bad g))

-- ---- what is read

module _ (s : List ℕ) (bytes : Bytes s) where
  -- a form number that is read is there
  begins : (n next : ℕ) → number_at s 0 ≡ Some (n, next) → Begins s n
  begins n next e = record { next = next; here = in_read s 0 n next bytes e }

  module _ (at n start : ℕ) (e : number_at s 0 ≡ Some (1, at)) (k : number_at s at ≡ Some (n, start)) where
    -- a row after a head holds its numbers
    row_holds : is_sequence n s start ≡ true → Holds s (numbers_at n s start)
    unfolding record_of sequence_of
    row_holds h =
        let r = row_written s bytes n start h in
        let a = only_written s 0 1 at bytes e in
        let b = only_written s at n start bytes k in
        record { numbers = r.numbers; few = rw r.count b.small; whole = a.here ∙ rw (b.here, r.here, r.count) }

    -- what is not a row is 16
    not_row : is_sequence n s start ≡ false → record_refusal s ≡ 16
    not_row h = on_row s 1 at e refl n start k ∙ sym (row_refused s n start h)

    -- after a whole head each refusal number has its reason
    judged_row : Judged s (record_refusal s)
    judged_row =
        by_test (is_sequence n s start)
        (λ h. by_test (are_events (numbers_at n s start))
        (λ g. rw (holds_good s _ (row_holds h) g) (Judged.accepted _ (row_holds h) g))
        (λ g. rw (holds_bad s _ (row_holds h) g) (Judged.no_event _ (row_holds h) g)))
        (λ h. let z = not_row h in rw z (Judged.broken (begins 1 at e) (λ es w. not_broken s es w z)))

  -- where no form number is read there is none
  no_number : number_at s 0 ≡ None → (n : ℕ) → Begins s n → ⊥
  no_number e n b =
      let r = read_in s 0 n b.next b.here in
      let z : ◌≡◌ {A = ℕ} 0 1 = cc in
      omega arith

  -- each refusal number has its reason
  pub is_judged : Judged s (record_refusal s)
  is_judged =
      by_head s
      (λ e. rw (missing s e) (Judged.no_form (no_number e)))
      (λ form at e h. rw (other s form at e h) (Judged.other_form form (begins form at e) h))
      (λ form at e one k.
      let z = cut s form at e one k in
      rw z (Judged.broken (rw one at (begins form at e)) (λ es h. not_broken s es h z)))
      (λ form at e one n next k. judged_row at n next (rw one at e) k)

  -- and where the reason is so the number is given
  pub judged_so : (k : ℕ) → Judged s k → record_refusal s ≡ k
  judged_so k (Judged.no_form f) = by_read (number_at s 0) (missing s) (λ n next e. absurd (f n (begins n next e)))
  judged_so k (Judged.other_form n b h) = other s n b.next (read_in s 0 n b.next b.here) h
  judged_so k (Judged.broken b f) =
      let e = read_in s 0 1 b.next b.here in
      by_read (number_at s b.next) (cut s 1 b.next e refl)
      (λ n start k. by_test (is_sequence n s start) (λ h. absurd (f _ (row_holds b.next n start e k h))) (not_row b.next n start e k))
  judged_so k (Judged.no_event es h g) = holds_bad s es h g
  judged_so k (Judged.accepted es h g) = holds_good s es h g
