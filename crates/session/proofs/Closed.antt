-- A closed session never fits: its display has no shape that is allowed.
use Prim.Native.Nat.{ℕ}
use mathlib.Core.Path.{◌≡◌, refl}
use mathlib.Core.Bool.{false}
use mathlib.Core.List.{List}
use Rattle.laws.specs.Choice.{◌and◌}
use Rattle.session.specs.Session.{opened, closed}
use Rattle.session.specs.Fits.{shape_fits, session_fits}

pub closed_never_fits : (im : List ℕ) → session_fits im closed ≡ false
unfolding session_fits shape_fits closed opened ◌and◌
closed_never_fits im = refl
