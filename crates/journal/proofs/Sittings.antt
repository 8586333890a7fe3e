-- Demand 3, over the definitions that the public contracts cite: after a successful Open and any list of events the sheet is the journal's (A),
-- and each field's bytes are its default changed by its own finished visits (B).
use Prim.Native.Nat.{ℕ}
use mathlib.Core.Path.{◌≡◌, refl, ap, ◌∙◌, subst}
use mathlib.Core.List.{List, [], ◌∷◌}
use lib.ListN.{length}
use Rattle.laws.specs.Choice.{◌=?◌}
use Rattle.laws.proofs.Cases.{if_ind, if_eq}
use Rattle.field.specs.Values.{bytes_of}
use Rattle.field.specs.Sheet.{own_bytes}
use Rattle.cmf.specs.Grammar.{WellFormed}
use Rattle.acceptance.proofs.Acceptance.{accepted_exactly_when_well_formed, same_fields}
use Rattle.session.specs.Session.{opened, closed}
use Rattle.session.specs.declared.session.Session.{Session}
use Rattle.handset.specs.Open.{open_refusal, open_answer, open_sheet}
use Rattle.handset.proofs.Ordering.{none_before}
use Rattle.handset.proofs.AfterOpen.{defaults_there}
use Rattle.journal.specs.Journal.{Answered, answered, all_visited, AllFinish, journal_of}
use Rattle.journal.specs.Rules.{field_at, rules_of, IsField, HoldsJournal}
use Rattle.journal.specs.Sitting.{Sitting, begun_with, next, answer_to, played, answered_in, visits_in}
use Rattle.journal.proofs.Steps.{away, final, log, Opened}
use Rattle.journal.proofs.Whole.{bytes_are_journal, journal_is_visits, visits_finish}
use Rattle.journal.proofs.Executor.{view_of, executor, executor_lawful}

-- ---- Open

module _ (im sheet : List ℕ) (columns lines : ℕ) (accepted : open_refusal im (length sheet) columns lines ≡ 0) where
  pub formed : WellFormed im (length sheet)
  unfolding open_refusal
  formed = (accepted_exactly_when_well_formed im (length sheet)).0 (none_before _ _ accepted).1

  no_visit : view_of im (open_answer im (length sheet) columns lines).session ≡ away
  unfolding open_answer opened closed
  no_visit = if_ind (λ (s : Session). view_of im s ≡ away) (open_refusal im (length sheet) columns lines =? 0) (λ _. refl) (λ _. refl)

  pub at_default : (q : ℕ) → IsField im q → own_bytes (field_at im q) (open_sheet im sheet columns lines) ≡ bytes_of (field_at im q).default
  unfolding open_sheet
  at_default q f =
      rw (if_eq (open_refusal im (length sheet) columns lines) 0 _ _ accepted)
      (defaults_there im sheet formed (field_at im q) (rw (same_fields im _ _ f.formed formed) at f.known))

  opened_well : Opened (rules_of im) (executor im) (begun_with im sheet columns lines)
  unfolding begun_with
  opened_well = record { closed = no_visit; defaults = at_default }

-- ---- lists

final_is : (im : List ℕ) (t : Sitting) (es : List ℕ) → final (executor im) t es ≡ played im t es
unfolding played
final_is im t [] = refl
final_is im t (e ∷ es) = final_is im (next im t e) es

log_is : (im : List ℕ) (t : Sitting) (es : List ℕ) → log (executor im) t es ≡ answered_in im t es
unfolding answered_in
log_is im t [] = refl
log_is im t (e ∷ es) = ap (λ (xs : List Answered). answered e (answer_to im t e) ∷ xs) (log_is im (next im t e) es)

-- ---- the claims

module _ (im sheet : List ℕ) (columns lines : ℕ) (accepted : open_refusal im (length sheet) columns lines ≡ 0) (es : List ℕ) where
  -- A
  pub sheet_holds_journal : HoldsJournal im (played im (begun_with im sheet columns lines) es).sheet (journal_of (rules_of im) (answered_in im (begun_with im sheet columns lines) es))
  sheet_holds_journal =
      record {
        same = λ q f.
            rw (← final_is im (begun_with im sheet columns lines) es, ← log_is im (begun_with im sheet columns lines) es)
            (bytes_are_journal (rules_of im) (executor im) (executor_lawful im) (begun_with im sheet columns lines) (opened_well im sheet columns lines accepted) es q f);
      }

  -- B
  pub default_changed_by_own_visits : (q : ℕ) → IsField im q
      → own_bytes (field_at im q) (played im (begun_with im sheet columns lines) es).sheet
      ≡ all_visited (rules_of im) q (bytes_of (field_at im q).default) (visits_in im (begun_with im sheet columns lines) es q)
  unfolding visits_in
  default_changed_by_own_visits q f =
      sheet_holds_journal.same q f ∙ journal_is_visits (rules_of im) (answered_in im (begun_with im sheet columns lines) es) q

  -- and each of these visits is finished by its last key
  pub own_visits_finish : (q : ℕ) → AllFinish (rules_of im) q (bytes_of (field_at im q).default) (visits_in im (begun_with im sheet columns lines) es q)
  unfolding visits_in
  own_visits_finish q =
      subst (λ (xs : List Answered). AllFinish (rules_of im) q (bytes_of (field_at im q).default) ((journal_of (rules_of im) xs).visits q)) (log_is im (begun_with im sheet columns lines) es)
      (visits_finish (rules_of im) (executor im) (executor_lawful im) (begun_with im sheet columns lines) (opened_well im sheet columns lines accepted) es q)
