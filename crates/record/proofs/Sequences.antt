-- A row of numbers is read back, and what is read as a row is one.
use Prim.Native.Nat.{ℕ, zero, suc, ◌+◌, ◌-◌, ◌≤◌}
use mathlib.Core.Path.{◌≡◌, refl, sym, ap, ◌∙◌}
use mathlib.Core.Bool.{true, false≢true}
use mathlib.Core.List.{List, [], ◌∷◌, ◌++◌, append_assoc, append-nil}
use native.Mathlib.Omega.{arith}
use lib.ListN.{length, drop, length-append, length-drop}
use lib.Seq.{drop-drop, drop_at, drop-length}
use borrow.Author.Tests.{eq-eqb, eqb-true}
use Rattle.std.proofs.Common.{Some}
use Rattle.laws.proofs.Cases.{and_i, and_r}
use Rattle.record.specs.Numbers.{encoded, sequence_of, number_at, numbers_at, end_after}
use Rattle.record.specs.Forms.{is_sequence}
use Rattle.record.specs.Promises.{Bytes, Numbers}
use Rattle.record.proofs.Readings.{only_written, read_written}
use Rattle.record.proofs.Steps.{by_read, numbers_next, end_next, row_next, row_broken}

module _ (s : List ℕ) where
  -- what is after some bytes
  pub rest_of : (at : ℕ) (b rest : List ℕ) → drop at s ≡ b ++ rest → drop (at + length b) s ≡ rest
  rest_of at b rest e = sym (drop-drop (length b) at s) ∙ ap (λ (l : List ℕ). drop (length b) l) e ∙ drop_at b rest (length b) refl

  -- the numbers of a row are read, and the place after them
  pub row_read : (ns rest : List ℕ) (at : ℕ) → Numbers ns → drop at s ≡ sequence_of ns ++ rest
      → (numbers_at (length ns) s at ≡ ns) × (end_after (length ns) s at ≡ at + length (sequence_of ns))
  unfolding sequence_of numbers_at end_after
  row_read [] rest at k d = (refl, omega arith)
  row_read (n ∷ ns) rest at k d =
      let d' : drop at s ≡ encoded n ++ (sequence_of ns ++ rest) = d ∙ append_assoc (encoded n) (sequence_of ns) rest in
      let next = at + length (encoded n) in
      let e = read_written s at n (sequence_of ns ++ rest) k.0 d' in
      let later = row_read ns rest next k.1 (rest_of at (encoded n) (sequence_of ns ++ rest) d') in (
        numbers_next s n next (length ns) at e ∙ ap (λ (l : List ℕ). n ∷ l) later.0,
        end_next s n next (length ns) at e ∙ later.1 ∙ omega (arith, length-append (encoded n) (sequence_of ns)),
      )

  -- a row that ends the bytes is read as one
  pub row_whole : (ns : List ℕ) (at : ℕ) → Numbers ns → drop at s ≡ sequence_of ns → at ≤ length s
      → (is_sequence (length ns) s at ≡ true) × (numbers_at (length ns) s at ≡ ns)
  unfolding is_sequence
  row_whole ns at k d h =
      let r = row_read ns [] at k (d ∙ sym (append-nil (sequence_of ns))) in
      (and_i (eq-eqb _ _ (ap length r.0)) (eq-eqb _ _ (r.1 ∙ omega (arith, length-drop at s, ap length d))), r.0)

-- the n numbers from a place on are all that comes
pub record Row (s : List ℕ) (n at : ℕ) : Type 0 where
  pub numbers : Numbers (numbers_at n s at)
  pub count : length (numbers_at n s at) ≡ n
  pub here : drop at s ≡ sequence_of (numbers_at n s at)

module _ (s : List ℕ) (bytes : Bytes s) where
  -- one number more
  row_more : (x next n at : ℕ) → number_at s at ≡ Some (x, next) → Row s n next → Row s (suc n) at
  unfolding sequence_of
  row_more x next n at e r =
      let k = only_written s at x next bytes e in
      let m = numbers_next s x next n at e in
      record { numbers = rw m (k.small, r.numbers); count = rw m (ap suc r.count); here = rw m (k.here ∙ ap (λ (l : List ℕ). encoded x ++ l) r.here) }

  -- what is read as a row is one
  pub row_written : (n at : ℕ) → is_sequence n s at ≡ true → Row s n at
  unfolding is_sequence numbers_at end_after sequence_of
  row_written zero at h =
      let e : at ≡ length s = eqb-true at (length s) (and_r _ _ h) in
      record { numbers = tt; count = refl; here = rw (e, drop-length s) }
  row_written (suc n) at h =
      let z : suc n - 1 ≡ n = omega arith in
      by_read (number_at s at) (λ e. absurd (false≢true (sym (row_broken s (suc n) at (omega arith) e) ∙ h)))
      (λ x next e. row_more x next n at e (row_written n next (rw z at (row_next s x next (suc n) at (omega arith) e ∙ h))))
