-- Only an option has items.
use Prim.Native.Nat.{ℕ}
use mathlib.Core.Path.{◌≡◌, refl}
use Rattle.field.specs.declared.kind.Kind.{Kind}
use Rattle.field.specs.declared.kind.Kind.TheVariants.{Integer, Counter, Time, Date, Switch, Option, Trigger}
use Rattle.handset.specs.OptionText.{items_in}
use Rattle.handset.proofs.option.items_in.Goals as goal

-- another field has none
none_else : (k : Kind) → ((n w : ℕ) → k ≡ Option n w → ⊥) → 0 ≡ items_in k
unfolding items_in
none_else (Integer f) h = refl
none_else (Counter s) h = refl
none_else (Time l) h = refl
none_else (Date l) h = refl
none_else (Switch n) h = refl
none_else (Option n w) h = absurd (h n w refl)
none_else Trigger h = refl

pub returns-in-Option : goal.returns-in-Option
unfolding items_in
returns-in-Option c = simp c.in-Option.is

pub returns-in_default : goal.returns-in_default
returns-in_default c = none_else c.args.kind c.in_default.not-Option
