-- At the end each field's number is in range. Its default is, since the field has good settings; a visit starts with a legal copy whatever the
-- bytes are, every key keeps the copy legal, and what the last ENTER stores of a legal copy is in range. So a date is real.
use Prim.Native.Nat.{ℕ, suc, ◌+◌, ◌≤◌, ◌<◌}
use mathlib.Core.Path.{◌≡◌}
use mathlib.Core.Bool.{Bool, true}
use mathlib.Core.List.{List, [], ◌∷◌}
use native.Mathlib.Omega.{arith}
use Rattle.laws.specs.Choice.{◌=?◌}
use Rattle.laws.specs.Bytes.{byte_at}
use Rattle.laws.specs.Digits.{from_low}
use Rattle.laws.proofs.Cases.{if_ind}
use Rattle.field.specs.Calendar.{RealDate}
use Rattle.field.specs.Profiles.{profile_of}
use Rattle.field.specs.Values.{bytes_of, value_of, number_of}
use Rattle.field.specs.Cells.{stores, in_range, finished}
use Rattle.field.specs.Sheet.{size_of}
use Rattle.field.specs.declared.kind.Kind.{Kind}
use Rattle.field.specs.declared.kind.Kind.TheVariants.{Date}
use Rattle.field.specs.declared.record.Field.{Field}
use Rattle.field.specs.declared.work.Work.{Work}
use Rattle.keys.specs.declared.press.Outcome.{Outcome}
use Rattle.keys.specs.declared.press.Outcome.TheVariants as outcome
use Rattle.field.proofs.Legal.{Legal}
use Rattle.field.proofs.Trip.{started_legal}
use Rattle.field.proofs.Entered.{Fitting, range_finished}
use Rattle.field.proofs.Dates.{year_in, month_in, day_in, range_real}
use Rattle.keys.proofs.Outcomes.{Facts, passed_in, parts_in, passed_last}
use Rattle.cmf.specs.Layouts.{Component}
use Rattle.cmf.specs.Grammar.{Every}
use Rattle.cmf.specs.Readers.{kind_at, component_at}
use Rattle.cmf.specs.declared.component.Component as read
use Rattle.cmf.proofs.Agreeing.{agree}
use Rattle.acceptance.proofs.Fields.{every_in, every_table}
use Rattle.session.specs.Events.{enter}
use Rattle.journal.specs.Journal.{Out, on, stored, presses, leaves, visited, all_visited}
use Rattle.journal.specs.Rules.{field_at, out_of, pressed_out, start_of, rules_of, IsField}
use Rattle.journal.proofs.Components.{by_reading}
use Rattle.journal.proofs.Executor.{pressed_says}
use Rattle.journal.proofs.Sittings.{default_changed_by_own_visits}
use Rattle.promises.specs.Demand3.{Candidate, visits_at, bytes_at}
use Rattle.promises.proofs.WorkingCopies.{Ready, component_ready, pressed_legal}

-- ---- a visit

module _ (k : Kind) where
  -- bytes of a number in range
  abbrev InRange : List ℕ → Type 0
  InRange b = in_range k (from_low b) ≡ true

  -- a visit goes on with a legal copy, or it has stored such bytes
  abbrev LegalOut : Out Work → Type 0
  LegalOut (on w) = Legal k w
  LegalOut (stored b) = InRange b

module _ (k : Kind) (fits : Fitting k) where
  -- the last ENTER comes in the last part, so what it stores is in range
  stored_in_range : (w : Work) → Legal k w → parts_in (profile_of k) ≤ suc (passed_in (profile_of k) w) → stores k w.cells ≡ true → InRange k (bytes_of (finished k w))
  unfolding number_of
  stored_in_range w h l = range_finished k w fits h.cells (passed_last k w h l)

  -- by the outcome of a key, with the working copy v that it gave
  outcome_legal : (t : Bool) (w v : Work) (o : Outcome) → Facts t k w v o → Legal k w → Legal k v → LegalOut k (out_of k w v o)
  unfolding out_of
  outcome_legal t w v outcome.Taken x h l = l
  outcome_legal t w v outcome.Flash x h l = h
  outcome_legal t w v outcome.NextPart x h l = l
  outcome_legal t w v outcome.Done x h l = rw x.2 (stored_in_range w h x.3 x.4)
  outcome_legal t w v outcome.Fired x h l = h
  outcome_legal t w v outcome.Passed x h l = h

  -- so it is with every key
  key_legal : (w : Work) (e : ℕ) → Legal k w → LegalOut k (pressed_out k w e)
  key_legal w e h = outcome_legal (e =? enter) w _ _ (pressed_says k w e).facts h (pressed_legal k w e h)

-- ---- visits one after another

module _ (im : List ℕ) (q : ℕ) (fits : Fitting (field_at im q).kind) (ready : Ready (field_at im q)) where
  -- the field's kind
  abbrev kind : Kind
  kind = (field_at im q).kind

  -- the keys of a visit leave bytes of a number in range
  keys_in_range : (b : List ℕ) (o : Out Work) (es : List ℕ) → InRange kind b → LegalOut kind o → InRange kind (leaves (rules_of im) q b (presses (rules_of im) q o es))
  keys_in_range b (on w) [] h l = h
  keys_in_range b (stored v) [] h l = l
  keys_in_range b (on w) (e ∷ es) h l = keys_in_range b (pressed_out kind w e) es h (key_legal kind fits w e l)
  keys_in_range b (stored v) (e ∷ es) h l = keys_in_range b (stored v) es h l

  -- and so do all visits, since each starts legal
  visits_in_range : (b : List ℕ) (vs : List (List ℕ)) → InRange kind b → InRange kind (all_visited (rules_of im) q b vs)
  visits_in_range b [] h = h
  visits_in_range b (v ∷ vs) h =
      let l = started_legal kind (value_of (size_of (field_at im q)) b) (field_at im q).default ready.cell ready.default in
      visits_in_range (visited (rules_of im) q b v) vs (keys_in_range b (on (start_of (field_at im q) b)) v h l)

-- ---- the fields of an image

-- what a component of the grammar holds can be visited
held_ready : (im : List ℕ) (at end : ℕ) (fs : List Field) → Component im at end fs → Every Ready fs
held_ready im at end fs x =
    let i = (agree im).component_is x in
    rw (← i.fields) (if_ind (Every Ready) (component_at im at).fielded (λ _. Every.add (component_ready im at i.refusal) Every.none) (λ _. Every.none))

-- and so can every field
field_ready : (im : List ℕ) (q : ℕ) → IsField im q → Ready (field_at im q)
field_ready im q f = every_in (every_table im Ready (held_ready im) _ _ _ _ f.formed.table) (field_at im q) f.known

-- the settings of an image of bytes fit the field's bytes: a counter's end is taken as a number of two bytes, an option's items are counted in one
kind_fitting : (im : List ℕ) (at code : ℕ) → ((i : ℕ) → byte_at im i < 256) → Fitting (kind_at im at code)
unfolding kind_at
kind_fitting im at code h =
    if_ind Fitting _ (λ _. tt)
    (λ _. if_ind Fitting _ (λ _. omega arith)
    (λ _. if_ind Fitting _ (λ _. tt)
    (λ _. if_ind Fitting _ (λ _. tt)
    (λ _. if_ind Fitting _ (λ _. tt)
    (λ _. if_ind Fitting _ (λ _. tt)
    (λ _. if_ind Fitting _ (λ _. tt)
    (λ _. if_ind Fitting _ (λ _. omega (arith, h (at + 7))) (λ _. tt))))))))

-- so do those of a field
field_fitting : (im : List ℕ) (q : ℕ) → ((i : ℕ) → byte_at im i < 256) → Fitting (field_at im q).kind
field_fitting im q h =
    by_reading im q (λ (x : read.Component). Fitting x.field.kind) (λ _. kind_fitting im q 0x17 h) (λ code tag end t g. kind_fitting im q code h)

-- ---- at the end

module _ (im : List ℕ) (c : Candidate im) (q : ℕ) (f : IsField im q) where
  -- the default is in range, and so is what the field's visits made of it
  fitting_in_range : Fitting (field_at im q).kind → InRange (field_at im q).kind (bytes_at c q)
  unfolding number_of
  fitting_in_range fits =
      let r = field_ready im q f in
      rw (default_changed_by_own_visits im c.sheet c.columns c.lines c.accepted c.events q f)
      (visits_in_range im q fits r _ (visits_at c q) r.default)

  -- in an image of bytes every kind fits
  pub ends_in_range : ((i : ℕ) → byte_at im i < 256) → InRange (field_at im q).kind (bytes_at c q)
  ends_in_range h = fitting_in_range (field_fitting im q h)

-- a number in range of a kind that is a date's is a real date
of_date : (k : Kind) (long : Bool) (x : ℕ) → k ≡ Date long → in_range k x ≡ true → RealDate long (year_in x) (month_in x) (day_in x)
of_date k long x e h = range_real long x (rw e at h)

-- a date fits in every image
pub ends_real : (im : List ℕ) (c : Candidate im) (q : ℕ) → IsField im q → (long : Bool) → (field_at im q).kind ≡ Date long
    → let x = from_low (bytes_at c q) in RealDate long (year_in x) (month_in x) (day_in x)
ends_real im c q f long e = of_date (field_at im q).kind long _ e (fitting_in_range im c q f (rw e tt))
