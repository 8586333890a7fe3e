-- The mode by its number.
use mathlib.Core.Path.{refl}
use native.Mathlib.Omega.{arith}
use Rattle.session_bytes.proofs.Layouts.{mode_visit, mode_password, mode_other}
use Rattle.session_bytes.proofs.read.mode.Goals as goal

pub returns-in-1 : goal.returns-in-1
returns-in-1 c = mode_visit _ _ _ _ refl c.place_at-of.ensures c.in-1.is

pub returns-in-2 : goal.returns-in-2
returns-in-2 c = mode_password _ _ _ _ refl c.place_at-of.ensures c.in-2.is

pub returns-in_default : goal.returns-in_default
returns-in_default c = mode_other _ _ _ _ refl c.place_at-of.ensures (λ h. omega arith) (λ h. omega arith)
