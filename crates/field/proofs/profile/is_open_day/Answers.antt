-- Only a date has a day, and its tests follow.
use Rattle.laws.specs.Choice.{◌and◌}
use Prim.Native.Nat.{ℕ}
use mathlib.Core.Path.{◌≡◌, refl}
use mathlib.Core.Bool.{Bool, false}
use Rattle.field.specs.declared.kind.Kind.{Kind}
use Rattle.field.specs.declared.work.Work.{Work}
use Rattle.field.specs.declared.kind.Kind.TheVariants.{Integer, Counter, Time, Date, Switch, Option, Trigger}
use borrow.Author.Tests.{ne_eqb}
use Rattle.field.specs.Profiles.{open_day}
use Rattle.field.proofs.profile.is_open_day.Goals as goal

-- no other kind has a day
other_day : (k : Kind) (w : Work) (i : ℕ) → ((long : Bool) → k ≡ Date long → ⊥) → false ≡ open_day k w i
unfolding open_day
other_day (Integer f) w i h = refl
other_day (Counter s) w i h = refl
other_day (Time long) w i h = refl
other_day (Date long) w i h = absurd (h long refl)
other_day (Switch n) w i h = refl
other_day (Option n o) w i h = refl
other_day Trigger w i h = refl

pub returns-then-i : goal.returns-then-i
unfolding open_day ◌and◌
returns-then-i c = simp (c.if-i.true, c.in-Date.is)

pub returns-else-i : goal.returns-else-i
unfolding open_day ◌and◌
returns-else-i c = simp (ne_eqb _ _ c.if-i.false, c.in-Date.is)

pub returns-in_default : goal.returns-in_default
returns-in_default c = other_day _ _ _ c.in_default.not-Date
