-- The theorem that users rely on: the check refuses an image with a number exactly when the definition of refusals says that number. So that
-- definition gives an image one number at most, and one exactly where the image is not well formed.
use Prim.Native.Nat.{ℕ, ◌<◌}
use mathlib.Core.Path.{◌≡◌, refl, sym, ap, ◌∙◌}
use mathlib.Core.List.{List, [], map}
use native.Mathlib.Omega.{arith}
use native.Mathlib.Nat.{zero-add}
use borrow.Author.Tests.{eqb-true, eqb-false}
use Rattle.cmf.specs.Refusals.{refusal_number}
use Rattle.laws.specs.Choice.{◌=?◌}
use Rattle.laws.proofs.Cases.{if_ind, by_test, if_eq, if_ne}
use Rattle.cmf.specs.Limits.{deepest_table, most_fields, prolog_bytes}
use Rattle.cmf.specs.Grammar.{Prolog, WellFormed}
use Rattle.cmf.proofs.Agreement.{Agree}
use Rattle.cmf.proofs.Agreeing.{agree}
use Rattle.acceptance.specs.Check.{State, entry_of, walked, prolog_refusal, checked, refusal_of}
use Rattle.acceptance.specs.Faults.{Refused}
use Rattle.acceptance.proofs.Takes.{fits_takes, takes_fits, beside_none}
use Rattle.acceptance.proofs.Accepted.{prolog_is, prolog_read}
use Rattle.acceptance.proofs.Acceptance.{accepted_exactly_when_well_formed}
use Rattle.acceptance.proofs.Judging.{judged_lowest, lowest_judged}
use Rattle.acceptance.proofs.PrologJudging.{prolog_judged}
use Rattle.acceptance.proofs.Answers.{answer, sits, judged}
use Rattle.acceptance.proofs.Falls.{table_falls}
use Rattle.acceptance.proofs.Finds.{table_finds}

module _ (im : List ℕ) (extent : ℕ) where
  A : Agree im
  A = agree im

  -- a walk that is refused with a number: the definition says that number
  walk_refused : (k : ℕ) → 0 < k → Prolog im → refusal_number (walked im extent).progress.refusal ≡ k → Refused im extent k
  unfolding walked
  walk_refused k pos p z =
      let x = table_finds im A extent most_fields deepest_table prolog_bytes 0 0 [] (omega arith) k pos z in
      let f = takes_fits extent most_fields (omega arith) x.takes in
      let e : answer im extent most_fields x.structure x.count (map entry_of x.fields) ≡ k = rw (zero-add x.count) at x.answers in
      let d = judged im extent x.count x.fields x.structure (sits im deepest_table prolog_bytes x.structure x.fields x.count x.comes) in
      Refused.structure x.structure x.fields x.count p x.comes
      (record { few_lines = omega (arith, x.room); few_fields = omega (arith, f.few); inside = f.inside; apart = f.apart })
      (rw e at (judged_lowest d (omega arith)))

  refused_is : (k : ℕ) → 0 < k → refusal_of im extent ≡ k → Refused im extent k
  unfolding refusal_of checked
  refused_is k pos =
      if_ind (λ (s : State). refusal_number s.progress.refusal ≡ k → Refused im extent k) (refusal_number (prolog_refusal im) =? 0)
      (λ e z. walk_refused k pos (prolog_read im (eqb-true _ 0 e)) z)
      (λ e z. Refused.prolog (rw z at (judged_lowest (prolog_judged im) (omega arith))))

  -- a number that the definition says: the check comes to that structure and answers it
  is_refused_lem : {k : ℕ} → Refused im extent k → (refusal_of im extent ≡ k) × (0 < k)
  unfolding refusal_of checked walked
  is_refused_lem (Refused.prolog l) =
      let j = lowest_judged (prolog_judged im) l in
      (ap (λ (s : State). refusal_number s.progress.refusal) (if_ne (refusal_number (prolog_refusal im)) 0 _ _ (λ z. omega (arith, j.1))) ∙ j.0, omega (arith, j.0, j.1))
  is_refused_lem {k} (Refused.structure x fs lines p c kept l) =
      let j = lowest_judged (judged im extent lines fs x (sits im deepest_table prolog_bytes x fs lines c)) l in
      let t = fits_takes extent most_fields [] {fs = fs} (omega (arith, kept.few_fields)) kept.inside (beside_none fs) kept.apart in
      let pos : 0 < k = omega (arith, j.0, j.1) in (
        ap (λ (s : State). refusal_number s.progress.refusal) (if_eq (refusal_number (prolog_refusal im)) 0 _ _ (prolog_is im p))
            ∙ table_falls im A extent most_fields deepest_table prolog_bytes 0 0 [] x fs lines c t (omega (arith, kept.few_lines)) k pos (rw (zero-add lines) j.0),
        pos,
      )

-- 01, Refusal numbers: the check answers a number exactly when the definition says it
pub refused_exactly_when :
    (im : List ℕ) (extent k : ℕ) →
    (((refusal_of im extent ≡ k) × (k ≡ 0 → ⊥)) → Refused im extent k) × (Refused im extent k → (refusal_of im extent ≡ k) × (k ≡ 0 → ⊥))
refused_exactly_when im extent k =
    ((λ h. refused_is im extent k (omega (arith, h.1)) h.0), (λ r. let h = is_refused_lem im extent r in (h.0, (λ z. omega (arith, h.1)))))

-- an image is refused with one number only
pub refused_once : (im : List ℕ) (extent j k : ℕ) → Refused im extent j → Refused im extent k → j ≡ k
refused_once im extent j k x y = sym (is_refused_lem im extent x).0 ∙ (is_refused_lem im extent y).0

-- no image is both well formed and refused
pub never_both : (im : List ℕ) (extent k : ℕ) → WellFormed im extent → Refused im extent k → ⊥
never_both im extent k w r =
    let h = is_refused_lem im extent r in omega (arith, h.0, h.1, (accepted_exactly_when_well_formed im extent).1 w)

-- and each image is one of the two
pub data Settled (im : List ℕ) (extent : ℕ) : Type 0 where
  accepted : WellFormed im extent → Settled im extent
  refused : (k : ℕ) → Refused im extent k → Settled im extent

pub settled : (im : List ℕ) (extent : ℕ) → Settled im extent
settled im extent =
    by_test (refusal_of im extent =? 0)
    (λ e. Settled.accepted ((accepted_exactly_when_well_formed im extent).0 (eqb-true _ 0 e)))
    (λ e. Settled.refused (refusal_of im extent) (refused_is im extent _ (omega (arith, eqb-false (refusal_of im extent) 0 e)) refl))
