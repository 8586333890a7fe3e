-- Bytes of no field stay through a whole sitting: an event writes only where it finishes a visit, and then only the bytes of a field.
use Prim.Native.Nat.{ℕ, ◌+◌, ◌≤◌}
use mathlib.Core.Path.{◌≡◌, refl, ◌∙◌}
use mathlib.Core.Logic.{◌⊎◌, inl, inr}
use mathlib.Core.List.{List, [], ◌∷◌}
use lib.ListN.{length}
use borrow.Author.Tests.{eqb-true}
use Rattle.laws.specs.Choice.{◌=?◌}
use Rattle.laws.specs.Parts.{part_at}
use Rattle.laws.proofs.Cases.{if_ind}
use Rattle.laws.proofs.Frame.{put_beside}
use Rattle.field.specs.Values.{bytes_of}
use Rattle.field.specs.Cells.{finished}
use Rattle.field.specs.Sheet.{size_of, finished_in}
use Rattle.field.specs.declared.record.Field.{Field}
use Rattle.field.specs.declared.work.Work.{Work}
use Rattle.keys.specs.declared.press.Outcome.{Outcome}
use Rattle.keys.specs.declared.press.Outcome.TheVariants as outcome
use Rattle.field.proofs.Trip.{finished_length}
use Rattle.session.specs.Events.{second}
use Rattle.session.specs.Visits.{followed_sheet, visit_sheet}
use Rattle.session.specs.Step.{sheet_in}
use Rattle.session.specs.declared.session.Mode.{Mode}
use Rattle.session.specs.declared.session.Mode.TheVariants as mode
use Rattle.handset.specs.Event.{event_refusal, event_sheet}
use Rattle.handset.proofs.Stepping.{EventGranted, event_granted}
use Rattle.journal.specs.Rules.{field_at, IsField, Beside}
use Rattle.journal.specs.Sitting.{Sitting, next, played}
use Rattle.journal.proofs.Executor.{visited_field}

module _ (im : List ℕ) (from n : ℕ) (b : Beside im from n) where
  -- a field's bytes are written
  finished_apart : (f : Field) (w : Work) (sheet : List ℕ) → (from + n ≤ f.sheet.0) ⊎ (f.sheet.0 + size_of f ≤ from)
      → part_at from n (finished_in f w sheet) ≡ part_at from n sheet
  unfolding finished_in
  finished_apart f w sheet (inl h) = put_beside f.sheet.0 (bytes_of (finished f.kind w)) sheet from n (inl h)
  finished_apart f w sheet (inr h) = put_beside f.sheet.0 (bytes_of (finished f.kind w)) sheet from n (inr (rw (finished_length f.kind w) h))

  followed_apart : (p : ℕ) → IsField im p → (w : Work) (o : Outcome) (sheet : List ℕ) → part_at from n (followed_sheet sheet (field_at im p) w o) ≡ part_at from n sheet
  unfolding followed_sheet
  followed_apart p f w outcome.Taken sheet = refl
  followed_apart p f w outcome.Flash sheet = refl
  followed_apart p f w outcome.NextPart sheet = refl
  followed_apart p f w outcome.Done sheet = finished_apart (field_at im p) w sheet (b.beside p f)
  followed_apart p f w outcome.Fired sheet = refl
  followed_apart p f w outcome.Passed sheet = refl

  module _ (t : Sitting) (e : ℕ) where
    -- only a visit writes, and it is of a field
    mode_apart : (m : Mode) → t.session.mode ≡ m → EventGranted im (length t.sheet) t.session e
        → part_at from n (sheet_in im t.sheet t.session e m) ≡ part_at from n t.sheet
    unfolding sheet_in visit_sheet
    mode_apart mode.Browsing h g = refl
    mode_apart (mode.Visit p) h g =
        if_ind (λ (s : List ℕ). part_at from n s ≡ part_at from n t.sheet) (e =? second) (λ _. refl)
        (λ _. followed_apart p.0 (visited_field im t e g p h) _ _ t.sheet)
    mode_apart (mode.Password k) h g = refl

    event_apart : part_at from n (next im t e).sheet ≡ part_at from n t.sheet
    unfolding next event_sheet
    event_apart =
        if_ind (λ (s : List ℕ). part_at from n s ≡ part_at from n t.sheet) (event_refusal im (length t.sheet) t.session e =? 0)
        (λ z. mode_apart t.session.mode refl (event_granted im (length t.sheet) t.session e (eqb-true _ 0 z))) (λ _. refl)

  -- through a list of events
  pub played_apart : (es : List ℕ) (t : Sitting) → part_at from n (played im t es).sheet ≡ part_at from n t.sheet
  unfolding played
  played_apart [] t = refl
  played_apart (e ∷ es) t = played_apart es (next im t e) ∙ event_apart t e
