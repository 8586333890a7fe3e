-- The prolog: the check's answer is the lowest of rows 2 to 5 that applies, and 0 where none does.
use Prim.Native.Nat.{ℕ, ◌+◌, ◌≤◌, ◌<◌}
use mathlib.Core.Path.{◌≡◌, refl}
use mathlib.Core.Bool.{false}
use mathlib.Core.List.{List}
use native.Mathlib.Omega.{arith}
use lib.ListN.{length}
use borrow.Author.Tests.{ltb-true, ltb-false, eqb-true, eqb-false}
use Rattle.laws.specs.Choice.{◌and◌, ◌=?◌, ◌<?◌}
use Rattle.laws.specs.Bytes.{byte_at}
use Rattle.laws.proofs.Cases.{if_ind, by_test, and_i, and_l, and_r}
use Rattle.std.specs.Prelude.{Option}
use Rattle.cmf.specs.Refusals.{refusal_number}
use Rattle.cmf.specs.declared.refusal.Refusal.{Refusal}
use Rattle.cmf.specs.Limits.{longest_image, prolog_bytes}
use Rattle.acceptance.specs.Check.{prolog_refusal}
use Rattle.acceptance.specs.Faults.{PrologFault}
use Rattle.acceptance.proofs.CameTo.{clash}
use Rattle.acceptance.proofs.Judging.{Judged, at_fault, no_fault, not_below}

module _ (im : List ℕ) where
  abbrev F : ℕ → Type 0
  F = PrologFault im

  -- rows 2, 3, 4 and 5 do not apply
  record Sized : Type 0 where
    least : prolog_bytes ≤ length im
    most : length im ≤ longest_image

  record Named : Type 0 where
    c : byte_at im 0 ≡ 0x43
    m : byte_at im 1 ≡ 0x4d
    f : byte_at im 2 ≡ 0x46

  record Versioned : Type 0 where
    major : byte_at im 3 ≡ 0
    minor : byte_at im 4 ≡ 4

  record Marked : Type 0 where
    low : byte_at im 8 ≡ 0xff
    high : byte_at im 9 ≡ 0xfe

  prolog_least : (k : ℕ) → (2 < k → Sized) → (3 < k → Named) → (4 < k → Versioned) → (5 < k → Marked) → (j : ℕ) → F j → k ≤ j
  prolog_least k a b c d j (PrologFault.short x) = not_below k 2 (λ l. omega (arith, (a l).least))
  prolog_least k a b c d j (PrologFault.long x) = not_below k 2 (λ l. omega (arith, (a l).most))
  prolog_least k a b c d j (PrologFault.id_c x) = not_below k 3 (λ l. x (b l).c)
  prolog_least k a b c d j (PrologFault.id_m x) = not_below k 3 (λ l. x (b l).m)
  prolog_least k a b c d j (PrologFault.id_f x) = not_below k 3 (λ l. x (b l).f)
  prolog_least k a b c d j (PrologFault.major x) = not_below k 4 (λ l. x (c l).major)
  prolog_least k a b c d j (PrologFault.minor x) = not_below k 4 (λ l. x (c l).minor)
  prolog_least k a b c d j (PrologFault.mark_low x) = not_below k 5 (λ l. x (d l).low)
  prolog_least k a b c d j (PrologFault.mark_high x) = not_below k 5 (λ l. x (d l).high)

  -- one of the bytes is another
  not_named : (byte_at im 0 =? 0x43) and ((byte_at im 1 =? 0x4d) and (byte_at im 2 =? 0x46)) ≡ false → F 3
  not_named e =
      by_test (byte_at im 0 =? 0x43)
      (λ x. by_test (byte_at im 1 =? 0x4d)
      (λ y. by_test (byte_at im 2 =? 0x46) (λ z. clash (and_i x (and_i y z)) e) (λ z. PrologFault.id_f (eqb-false (byte_at im 2) 0x46 z)))
      (λ y. PrologFault.id_m (eqb-false (byte_at im 1) 0x4d y)))
      (λ x. PrologFault.id_c (eqb-false (byte_at im 0) 0x43 x))

  not_versioned : (byte_at im 3 =? 0) and (byte_at im 4 =? 4) ≡ false → F 4
  not_versioned e =
      by_test (byte_at im 3 =? 0)
      (λ x. by_test (byte_at im 4 =? 4) (λ y. clash (and_i x y) e) (λ y. PrologFault.minor (eqb-false (byte_at im 4) 4 y)))
      (λ x. PrologFault.major (eqb-false (byte_at im 3) 0 x))

  not_marked : (byte_at im 8 =? 0xff) and (byte_at im 9 =? 0xfe) ≡ false → F 5
  not_marked e =
      by_test (byte_at im 8 =? 0xff)
      (λ x. by_test (byte_at im 9 =? 0xfe) (λ y. clash (and_i x y) e) (λ y. PrologFault.mark_high (eqb-false (byte_at im 9) 0xfe y)))
      (λ x. PrologFault.mark_low (eqb-false (byte_at im 8) 0xff x))

  two : (j : ℕ) → F j → 2 ≤ j
  two = prolog_least 2 (λ l. absurd (omega arith)) (λ l. absurd (omega arith)) (λ l. absurd (omega arith)) (λ l. absurd (omega arith))

  -- the check's answer at the prolog
  pub prolog_judged : Judged F (refusal_number (prolog_refusal im))
  unfolding prolog_refusal
  prolog_judged =
      if_ind J (length im <? prolog_bytes) (λ a. at_fault 2 refl (omega arith) (PrologFault.short (ltb-true (length im) prolog_bytes a)) two)
      (λ a. if_ind J (longest_image <? length im) (λ b. at_fault 2 refl (omega arith) (PrologFault.long (ltb-true longest_image (length im) b)) two)
      (λ b. let sized : Sized = record { least = ltb-false (length im) prolog_bytes a; most = ltb-false longest_image (length im) b } in
      if_ind J ((byte_at im 0 =? 0x43) and ((byte_at im 1 =? 0x4d) and (byte_at im 2 =? 0x46)))
      (λ c. let named : Named = record {
        c = eqb-true _ 0x43 (and_l _ _ c);
        m = eqb-true _ 0x4d (and_l _ _ (and_r _ _ c));
        f = eqb-true _ 0x46 (and_r _ _ (and_r _ _ c));
      } in
      if_ind J ((byte_at im 3 =? 0) and (byte_at im 4 =? 4))
      (λ d. let versioned : Versioned = record { major = eqb-true _ 0 (and_l _ _ d); minor = eqb-true _ 4 (and_r _ _ d) } in
      if_ind J ((byte_at im 8 =? 0xff) and (byte_at im 9 =? 0xfe))
      (λ e. let marked : Marked = record { low = eqb-true _ 0xff (and_l _ _ e); high = eqb-true _ 0xfe (and_r _ _ e) } in
      no_fault refl (λ j q. let l = prolog_least (j + 1) (λ _. sized) (λ _. named) (λ _. versioned) (λ _. marked) j q in omega arith))
      (λ e. at_fault 5 refl (omega arith) (not_marked e) (prolog_least 5 (λ _. sized) (λ _. named) (λ _. versioned) (λ l. absurd (omega arith)))))
      (λ d. at_fault 4 refl (omega arith) (not_versioned d) (prolog_least 4 (λ _. sized) (λ _. named) (λ l. absurd (omega arith)) (λ l. absurd (omega arith)))))
      (λ c. at_fault 3 refl (omega arith) (not_named c) (prolog_least 3 (λ _. sized) (λ l. absurd (omega arith)) (λ l. absurd (omega arith)) (λ l. absurd (omega arith))))))
    where
      J : Option Refusal → Type 0
      J r = Judged F (refusal_number r)
