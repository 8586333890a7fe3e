-- An image is accepted exactly when it is well formed, and the walk then has counted the derivation's lines and fields and has its index.
use Prim.Native.Nat.{ℕ}
use mathlib.Core.Path.{◌≡◌, ap, ◌∙◌}
use mathlib.Core.List.{List, [], map}
use native.Mathlib.Omega.{arith}
use native.Mathlib.Nat.{zero-add}
use lib.ListN.{length, length-map}
use borrow.Author.Tests.{ltb-false, eqb-true, eqb-false, eq-eqb}
use Rattle.std.specs.Prelude.{Option}
use Rattle.cmf.specs.Refusals.{refusal_number}
use Rattle.cmf.specs.declared.refusal.Refusal.{Refusal}
use Rattle.laws.specs.Choice.{◌and◌, ◌=?◌, ◌<?◌}
use Rattle.laws.specs.Bytes.{byte_at}
use Rattle.laws.proofs.Cases.{if_ind, if_ge, if_true, if_eq, and_i, and_l, and_r}
use Rattle.cmf.specs.Limits.{longest_image, deepest_table, most_fields, prolog_bytes}
use Rattle.cmf.specs.Grammar.{Prolog, WellFormed}
use Rattle.cmf.proofs.Agreement.{Agree}
use Rattle.acceptance.specs.Check.{State, fine, entry_of, walked, prolog_refusal, checked, refusal_of}
use Rattle.acceptance.proofs.Takes.{fits_takes, takes_fits, beside_none}
use Rattle.acceptance.proofs.Line.{Came}
use Rattle.acceptance.proofs.Tables.{table_goes, table_read}

module _ (im : List ℕ) where
  -- the prolog
  pub prolog_is : Prolog im → refusal_number (prolog_refusal im) ≡ 0
  unfolding prolog_refusal
  prolog_is p = ap refusal_number (
      if_ge (length im) prolog_bytes _ _ p.least
      ∙ if_ge longest_image (length im) _ _ p.most
      ∙ if_true _ _ (and_i (eq-eqb _ 0x43 p.id_c) (and_i (eq-eqb _ 0x4d p.id_m) (eq-eqb _ 0x46 p.id_f)))
      ∙ if_true _ _ (and_i (eq-eqb _ 0 p.major) (eq-eqb _ 4 p.minor))
      ∙ if_true _ _ (and_i (eq-eqb _ 0xff p.mark_low) (eq-eqb _ 0xfe p.mark_high)))

  pub prolog_read : refusal_number (prolog_refusal im) ≡ 0 → Prolog im
  unfolding prolog_refusal
  prolog_read =
      if_ind P (length im <? prolog_bytes) (λ _ z. absurd (omega arith))
      (λ a. if_ind P (longest_image <? length im) (λ _ z. absurd (omega arith))
      (λ b. if_ind P ((byte_at im 0 =? 0x43) and ((byte_at im 1 =? 0x4d) and (byte_at im 2 =? 0x46)))
      (λ c. if_ind P ((byte_at im 3 =? 0) and (byte_at im 4 =? 4))
      (λ d. if_ind P ((byte_at im 8 =? 0xff) and (byte_at im 9 =? 0xfe))
      (λ e z. record {
        least = ltb-false (length im) prolog_bytes a;
        most = ltb-false longest_image (length im) b;
        id_c = eqb-true _ 0x43 (and_l _ _ c);
        id_m = eqb-true _ 0x4d (and_l _ _ (and_r _ _ c));
        id_f = eqb-true _ 0x46 (and_r _ _ (and_r _ _ c));
        major = eqb-true _ 0 (and_l _ _ d);
        minor = eqb-true _ 4 (and_r _ _ d);
        mark_low = eqb-true _ 0xff (and_l _ _ e);
        mark_high = eqb-true _ 0xfe (and_r _ _ e);
      })
      (λ _ z. absurd (omega arith)))
      (λ _ z. absurd (omega arith)))
      (λ _ z. absurd (omega arith))))
    where
      P : Option Refusal → Type 0
      P r = refusal_number r ≡ 0 → Prolog im

module _ (im : List ℕ) (extent : ℕ) (A : Agree im) where
  -- a well-formed image is walked to its end
  walked_is : (w : WellFormed im extent) → Came (checked im extent) w.lines (map entry_of w.fields)
  unfolding checked walked
  walked_is w =
      let t = fits_takes extent most_fields [] {fs = w.fields} (omega arith) w.inside (beside_none w.fields) w.apart in
      let c = table_goes im A extent most_fields deepest_table prolog_bytes 0 0 [] w.fields w.lines w.table t (omega arith) in
      record { end = c.end; is = if_eq (refusal_number (prolog_refusal im)) 0 _ _ (prolog_is im w.prolog) ∙ c.is ∙ rw zero-add }

  pub well_formed_is_accepted : WellFormed im extent → refusal_of im extent ≡ 0
  unfolding refusal_of
  well_formed_is_accepted w = ap (λ (s : State). refusal_number s.progress.refusal) (walked_is w).is

  accepted_walk : refusal_number (walked im extent).progress.refusal ≡ 0 → Prolog im → WellFormed im extent
  unfolding walked fine
  accepted_walk z p =
      let r = table_read im A extent most_fields deepest_table prolog_bytes 0 0 [] (eq-eqb _ 0 z) in
      let f = takes_fits extent most_fields (omega arith) r.takes in
      record {
        fields = r.fields;
        lines = r.count;
        prolog = p;
        table = r.table;
        few_lines = omega (arith, r.few);
        few_fields = omega (arith, f.few);
        inside = f.inside;
        apart = f.apart;
      }

  pub accepted_is_well_formed : refusal_of im extent ≡ 0 → WellFormed im extent
  unfolding refusal_of checked
  accepted_is_well_formed =
      if_ind (λ (s : State). refusal_number s.progress.refusal ≡ 0 → WellFormed im extent) (refusal_number (prolog_refusal im) =? 0)
      (λ e z. accepted_walk z (prolog_read im (eqb-true _ 0 e)))
      (λ e z. absurd (eqb-false (refusal_number (prolog_refusal im)) 0 e z))

-- 01: an image is refused with no number exactly when it is well formed
pub accepted_exactly_when_well_formed :
    (im : List ℕ) (extent : ℕ) → Agree im → ((refusal_of im extent ≡ 0 → WellFormed im extent) × (WellFormed im extent → refusal_of im extent ≡ 0))
accepted_exactly_when_well_formed im extent A = (accepted_is_well_formed im extent A, well_formed_is_accepted im extent A)

-- what the check has counted and put into the index
pub record Counted (im : List ℕ) (extent : ℕ) (w : WellFormed im extent) : Type 0 where
  pub lines : (checked im extent).progress.lines ≡ w.lines
  pub fields : (checked im extent).progress.fields ≡ length w.fields
  pub index : (checked im extent).fields ≡ map entry_of w.fields

pub counted : (im : List ℕ) (extent : ℕ) → Agree im → (w : WellFormed im extent) → Counted im extent w
counted im extent A w =
    let e = (walked_is im extent A w).is in
    record {
      lines = ap (λ (s : State). s.progress.lines) e;
      fields = ap (λ (s : State). s.progress.fields) e ∙ length-map w.fields entry_of;
      index = ap (λ (s : State). s.fields) e;
    }
