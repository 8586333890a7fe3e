-- Each return is the case of the definition that the tests on its path choose.
use Rattle.laws.specs.Choice.{◌and◌}
use Prim.Native.Nat.{ℕ}
use mathlib.Core.Path.{◌≡◌, refl}
use mathlib.Core.Bool.{true}
use Rattle.field.specs.declared.kind.Kind.{Kind}
use Rattle.field.specs.declared.kind.CounterSettings.{CounterSettings}
use Rattle.field.specs.declared.kind.Kind.TheVariants.{Integer, Counter, Time, Date, Switch, Option, Trigger}
use borrow.Author.Tests.{le-leb, lt-leb}
use Rattle.field.specs.Settings.{kind_fits}
use Rattle.field.proofs.settings.kind_fits.Goals as goal

-- the other kinds have no settings that can be wrong
others_fit : (k : Kind) → ((s : CounterSettings) → k ≡ Counter s → ⊥) → ((n : ℕ) → k ≡ Switch n → ⊥) → ((n w : ℕ) → k ≡ Option n w → ⊥) → true ≡ kind_fits k
unfolding kind_fits
others_fit (Integer f) c s o = refl
others_fit (Counter t) c s o = absurd (c t refl)
others_fit (Time long) c s o = refl
others_fit (Date long) c s o = refl
others_fit (Switch n) c s o = absurd (s n refl)
others_fit (Option n w) c s o = absurd (o n w refl)
others_fit Trigger c s o = refl

pub returns-then-step_fits : goal.returns-then-step_fits
unfolding kind_fits ◌and◌
returns-then-step_fits c = simp (c.width_fits.ensures, c.in-Counter.is, ← c.step_fits.ensures, c.if-step_fits.true)

pub returns-else-step_fits : goal.returns-else-step_fits
unfolding kind_fits ◌and◌
returns-else-step_fits c = simp (c.in-Counter.is, ← c.step_fits.ensures, c.if-step_fits.false)

pub returns-then-n-ge1 : goal.returns-then-n-ge1
unfolding kind_fits ◌and◌
returns-then-n-ge1 c = simp (c.in-Switch.is, le-leb _ _ c.if-n-ge1.true)

pub returns-else-n-ge1 : goal.returns-else-n-ge1
unfolding kind_fits ◌and◌
returns-else-n-ge1 c = simp (c.in-Switch.is, lt-leb _ _ c.if-n-ge1.false)

pub returns-in-Option : goal.returns-in-Option
unfolding kind_fits ◌and◌
returns-in-Option c = simp c.in-Option.is

pub returns-in_default : goal.returns-in_default
returns-in_default c = others_fit _ c.in_default.not-Counter c.in_default.not-Switch c.in_default.not-Option
