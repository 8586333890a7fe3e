-- Open, one case at a time, over variables: a bad shape, a refused image, and one that is not refused.
use Prim.Native.Nat.{ℕ}
use mathlib.Core.Path.{◌≡◌, refl, sym, ◌∙◌}
use mathlib.Core.Bool.{true, false}
use mathlib.Core.List.{List}
use native.Mathlib.Omega.{arith}
use lib.ListN.{length}
use Rattle.laws.proofs.Cases.{if_eq, if_ne}
use Rattle.cmf.specs.Places.{fields_of}
use Rattle.acceptance.specs.Check.{refusal_of}
use Rattle.session.specs.Session.{opened, closed}
use Rattle.session.specs.Fits.{shape_fits}
use Rattle.session.specs.declared.session.Session.{Session}
use Rattle.handset.proofs.Ordering.{first_given, next_given, holding, failing}
use Rattle.handset.specs.Open.{open_refusal, open_answer, defaults_written, open_sheet}
use Rattle.handset.specs.declared.open.Opened.{Opened}

abbrev answer : ℕ → Session → Opened
answer k s = record { refusal = k; session = s }

module _ (im : List ℕ) (columns lines : ℕ) where
  -- 01: a refused Open gives a closed session and leaves the sheet
  by_refusal : (n k : ℕ) → open_refusal im n columns lines ≡ k → (k ≡ 0 → ⊥) → answer k closed ≡ open_answer im n columns lines
  unfolding open_answer
  by_refusal n k e h = rw (e, if_ne k 0 (opened columns lines) closed h)

  sheet_kept : (s : List ℕ) (k : ℕ) → open_refusal im (length s) columns lines ≡ k → (k ≡ 0 → ⊥) → s ≡ open_sheet im s columns lines
  unfolding open_sheet
  sheet_kept s k e h = sym (rw e (if_ne k 0 _ _ h))

  pub shapeless : (n : ℕ) → shape_fits columns lines ≡ false → open_refusal im n columns lines ≡ 1
  unfolding open_refusal
  shapeless n h = rw (failing 1 (shape_fits columns lines) h) (first_given 1 _ (λ z. omega arith))

  pub shaped : (n k : ℕ) → shape_fits columns lines ≡ true → k ≡ refusal_of im n → open_refusal im n columns lines ≡ k
  unfolding open_refusal
  shaped n k h e = next_given _ _ (holding 1 (shape_fits columns lines) h) ∙ sym e

  -- refused, and not
  pub rejected : (s : List ℕ) (k : ℕ) → k ≡ open_refusal im (length s) columns lines → (k ≡ 0 → ⊥)
      → (answer k closed ≡ open_answer im (length s) columns lines) × (s ≡ open_sheet im s columns lines)
  rejected s k e b = (by_refusal (length s) k (sym e) b, sheet_kept s k (sym e) b)

  pub accepted : (s t : List ℕ) → 0 ≡ open_refusal im (length s) columns lines → t ≡ defaults_written (fields_of im) s
      → (answer 0 (opened columns lines) ≡ open_answer im (length s) columns lines) × (t ≡ open_sheet im s columns lines)
  unfolding open_answer open_sheet
  accepted s t e d =
      let r = sym e in
      (rw (r, if_eq 0 0 (opened columns lines) closed refl), d ∙ sym (rw r (if_eq 0 0 _ _ refl)))
