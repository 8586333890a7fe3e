-- The answer of a step is no refusal, and the place that it names is that of the visited component, which is in the image: so no answer's number is
-- cut, and no two share one.
use Prim.Native.Nat.{ℕ, ◌<◌}
use mathlib.Core.Path.{◌≡◌, refl}
use mathlib.Core.Bool.{Bool, true, false, false≢true}
use mathlib.Core.List.{List}
use native.Mathlib.Omega.{arith}
use lib.ListN.{length}
use borrow.Author.Tests.{eqb-true, eqb-false, ltb-true}
use Rattle.laws.specs.Choice.{when◌then◌else◌, ◌=?◌, ◌<?◌}
use Rattle.laws.proofs.Cases.{if_ind, by_test, and_l, and_r}
use Rattle.field.specs.declared.kind.ImagePlace.{ImagePlace}
use Rattle.field.specs.declared.record.Field.{Field}
use Rattle.field.specs.declared.work.Work.{Work}
use Rattle.keys.specs.declared.press.Outcome.{Outcome}
use Rattle.keys.specs.declared.press.Outcome.TheVariants as outcome
use Rattle.cmf.specs.Readers.{component_at}
use Rattle.cmf.specs.declared.component.Component.{Component}
use Rattle.acceptance.proofs.Acceptance.{accepted_exactly_when_well_formed}
use Rattle.session.specs.Answers.{finished_from, refused_from, is_refused, told_number, taken, flash}
use Rattle.session.specs.Fits.{mode_fits, visit_fits, session_fits}
use Rattle.session.specs.Seconds.{browse_second, entry_second}
use Rattle.std.specs.Prelude.{Option}
use Rattle.std.specs.Prelude.{Some, None}
use Rattle.session.specs.Browsing.{up_step, down_step, left_step, descended, right_step, enter_at, enter_step, browse_step}
use Rattle.session.specs.Passwords.{last_digit, digit_step, entry_step}
use Rattle.session.specs.Visits.{followed, visit_step}
use Rattle.session.specs.Step.{step_in, step_of, sheet_of}
use Rattle.session.specs.declared.session.Mode.{Mode}
use Rattle.session.specs.declared.session.Mode.TheVariants as mode
use Rattle.session.specs.declared.session.Session.{Session}
use Rattle.session.specs.declared.answer.Stepped.{Stepped}
use Rattle.session.proofs.Answers.{Near, near_told, given_below, told_once}
use Rattle.handset.specs.Event.{event_refusal, refused_with, event_step, event_answer, event_sheet}
use Rattle.handset.proofs.Stepping.{refused_step, refused_sheet, stepped, stepped_sheet, event_granted}

-- ---- the step of a mode

-- the visited component of a mode, if any, has a place below 65,536
abbrev pub VisitsNear : Mode → Type 0
VisitsNear m = (p : ImagePlace) → m ≡ mode.Visit p → p.0 < finished_from

-- an answer in a mode: no refusal, and its place is as near as that of the mode
pub record Plain (m : Mode) (r : Stepped) : Type 0 where
  pub given : is_refused r.answer ≡ false
  pub near : VisitsNear m → Near r.answer

module _ {m : Mode} where
  -- a choice of steps, and the two answers of browsing and of an entry
  by_plain : (t : Bool) {x y : Stepped} → (t ≡ true → Plain m x) → (t ≡ false → Plain m y) → Plain m (when t then x else y)
  by_plain t f g = if_ind (Plain m) t f g

  taken_plain : (s : Session) → Plain m (taken s)
  taken_plain s = record { given = refl; near = λ _. tt }

  flash_plain : (s : Session) → Plain m (flash s)
  flash_plain s = record { given = refl; near = λ _. tt }

-- ENTER while browsing, whatever is found
enter_plain : (im sheet : List ℕ) (s : Session) (f : Option ImagePlace) → Plain mode.Browsing (enter_at im sheet s f)
unfolding enter_at
enter_plain im sheet s (Some p) = taken_plain _
enter_plain im sheet s None = flash_plain s

-- a key in a visit, whatever its outcome
followed_plain : (im sheet : List ℕ) (s : Session) (p : ImagePlace) (f : Field) (v : Work) (o : Outcome)
    → Plain (mode.Visit p) (followed im sheet s p f v o)
unfolding followed
followed_plain im sheet s p f v outcome.Taken = taken_plain _
followed_plain im sheet s p f v outcome.Flash = flash_plain _
followed_plain im sheet s p f v outcome.NextPart = taken_plain _
followed_plain im sheet s p f v outcome.Done = record { given = refl; near = λ h. h p refl }
followed_plain im sheet s p f v outcome.Fired = record { given = refl; near = λ h. h p refl }
followed_plain im sheet s p f v outcome.Passed = taken_plain _

-- the step of every mode
pub mode_plain : (im sheet : List ℕ) (s : Session) (e : ℕ) (m : Mode) → Plain m (step_in im sheet s e m)
unfolding step_in browse_step up_step down_step left_step right_step descended enter_step browse_second entry_step entry_second digit_step last_digit visit_step
mode_plain im sheet s e mode.Browsing = search (by_plain, taken_plain, flash_plain, enter_plain) depth 30
mode_plain im sheet s e (mode.Visit p) = by_plain _ (λ _. taken_plain s) (λ _. followed_plain im sheet _ p _ _ _)
mode_plain im sheet s e (mode.Password k) = search (by_plain, taken_plain, flash_plain) depth 30

-- ---- the visited component

-- what holds a field begins in the image
holds_inside : (im : List ℕ) (p : ℕ) → (component_at im p).fielded ≡ true → p < length im
unfolding component_at
holds_inside im p =
    if_ind (λ (c : Component). c.fielded ≡ true → p < length im) (p <? length im) (λ h _. ltb-true p (length im) h)
    (λ _ h. absurd (false≢true h))

-- so does what a session that fits visits
visit_inside : (im : List ℕ) (s : Session) (p : ImagePlace) → session_fits im s ≡ true → s.mode ≡ mode.Visit p → p.0 < length im
unfolding session_fits mode_fits visit_fits
visit_inside im s p h m =
    let v : mode_fits im s (mode.Visit p) ≡ true = rw m at (and_r _ _ (and_r _ _ h)) in
    holds_inside im p.0 (and_l _ _ (and_r _ _ v))

-- ---- Event

module _ (im sheet : List ℕ) (s : Session) (e : ℕ) where
  abbrev pub refusal : ℕ
  refusal = event_refusal im (length sheet) s e

  -- a property of an Event: of the step of its mode, and of a refusal
  pub by_refusal : (P : Stepped → List ℕ → Type 0) → (refusal ≡ 0 → P (step_of im sheet s e) (sheet_of im sheet s e))
      → ((refusal ≡ 0 → ⊥) → P (refused_with s refusal) sheet) → P (event_step im sheet s e) (event_sheet im sheet s e)
  by_refusal P f g =
      by_test (refusal =? 0)
      (λ h. let z = eqb-true refusal 0 h in
      rw (← stepped im sheet s e _ refl z, ← stepped_sheet im sheet s e _ refl z) (f z))
      (λ h. let z = eqb-false refusal 0 h in
      rw (← refused_step im sheet s e _ refl z, ← refused_sheet im sheet s e _ refl z) (g z))

  -- the place that an answer names is below 65,536
  pub event_near : Near (event_step im sheet s e).answer
  event_near =
      by_refusal (λ (r : Stepped) (x : List ℕ). Near r.answer)
      (λ h. let g = event_granted im (length sheet) s e h in
      let w = (accepted_exactly_when_well_formed im (length sheet)).0 g.granted.accepted in
      (mode_plain im sheet s e s.mode).near
      (λ p m. omega (arith, visit_inside im s p g.granted.fits m, w.prolog.most)))
      (λ _. tt)

  -- so that the code tells its number whole
  pub event_told : told_number (event_step im sheet s e).answer ≡ event_answer im sheet s e
  unfolding event_answer
  event_told = near_told _ event_near

  -- and one that is not refused is below the numbers of refusals
  pub event_below : refusal ≡ 0 → event_answer im sheet s e < refused_from
  unfolding event_answer
  event_below z =
      given_below _ event_near (rw (← stepped im sheet s e _ refl z) (mode_plain im sheet s e s.mode).given)

-- the number of an answer settles it
pub told_apart : (im sheet : List ℕ) (s : Session) (e : ℕ) (im' sheet' : List ℕ) (s' : Session) (e' : ℕ)
    → event_answer im sheet s e ≡ event_answer im' sheet' s' e' → (event_step im sheet s e).answer ≡ (event_step im' sheet' s' e').answer
unfolding event_answer
told_apart im sheet s e im' sheet' s' e' h = told_once _ _ (event_near im sheet s e) (event_near im' sheet' s' e') h
