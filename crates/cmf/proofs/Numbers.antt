-- A refusal has a number above 0, so that 0 says that there is none.
use Prim.Native.Nat.{ℕ, ◌<◌}
use mathlib.Core.Path.{◌≡◌, refl, sym, ◌∙◌}
use mathlib.Core.Bool.{Bool, true, false, false≢true}
use native.Mathlib.Omega.{arith}
use Rattle.std.specs.Prelude.{Option, Some, None, is_some}
use Rattle.cmf.specs.Refusals.{number, refusal_number}
use Rattle.cmf.specs.declared.refusal.Refusal.{Refusal}
use Rattle.cmf.specs.declared.refusal.Refusal.TheVariants as fault

pub number_positive : (r : Refusal) → 0 < number r
number_positive fault.Shape = omega arith
number_positive fault.Length = omega arith
number_positive fault.Name = omega arith
number_positive fault.Version = omega arith
number_positive fault.Order = omega arith
number_positive fault.Cut = omega arith
number_positive fault.Form = omega arith
number_positive fault.Limit = omega arith
number_positive fault.Setting = omega arith
number_positive fault.Sheet = omega arith
number_positive fault.Overlap = omega arith
number_positive fault.Session = omega arith
number_positive fault.Event = omega arith
number_positive fault.Item = omega arith
number_positive fault.Key = omega arith
number_positive fault.Record = omega arith
number_positive fault.OtherForm = omega arith
number_positive fault.Room = omega arith

-- what is told of a refusal by asking whether there is one
pub refused_number : (r : Option Refusal) {t : Bool} → t ≡ is_some r → t ≡ true → refusal_number r ≡ 0 → ⊥
refused_number None e y z = false≢true (sym e ∙ y)
refused_number (Some r) e y z = omega (arith, number_positive r)

pub unrefused_number : (r : Option Refusal) {t : Bool} → t ≡ is_some r → t ≡ false → refusal_number r ≡ 0
unrefused_number None e y = refl
unrefused_number (Some r) e y = absurd (false≢true (sym y ∙ e))
