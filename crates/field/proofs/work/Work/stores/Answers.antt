-- Each return is the case of the definition that the tests on its path choose.
use Prim.Native.Nat.{ℕ}
use mathlib.Core.Path.{◌≡◌, refl}
use mathlib.Core.Bool.{true}
use mathlib.Core.List.{List}
use Rattle.field.specs.declared.kind.Kind.{Kind}
use Rattle.field.specs.declared.kind.Format.{Format}
use Rattle.field.specs.declared.kind.Kind.TheVariants.{Integer, Counter, Time, Date, Switch, Option, Trigger}
use Rattle.field.specs.Cells.{stores}
use Rattle.field.proofs.Bounds.{format_sound}
use Rattle.field.proofs.work.Work.stores.Goals as goal

-- every other kind can be stored
others_store : (k : Kind) (cs : List ℕ) → ((f : Format) → k ≡ Integer f → ⊥) → true ≡ stores k cs
unfolding stores
others_store (Integer f) cs h = absurd (h f refl)
others_store (Counter s) cs h = refl
others_store (Time long) cs h = refl
others_store (Date long) cs h = refl
others_store (Switch n) cs h = refl
others_store (Option n w) cs h = refl
others_store Trigger cs h = refl

pub storable-requires : goal.storable-requires
storable-requires c = rw c.numeral.ensures (format_sound _)

pub returns-in-Integer : goal.returns-in-Integer
unfolding stores
returns-in-Integer c = simp (c.storable.ensures, c.numeral.ensures, c.in-Integer.is)

pub returns-in_default : goal.returns-in_default
returns-in_default c = others_store _ _ c.in_default.not-Integer
