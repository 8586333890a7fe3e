-- Each mode has its number, and its value is after it.
use mathlib.Core.List.{[], ◌∷◌}
use mathlib.Core.Path.{refl}
use Rattle.laws.specs.Digits.{low_first}
use Rattle.session_bytes.specs.Layout.{mode_bytes}
use Rattle.session_bytes.proofs.Layouts.{joined}
use Rattle.session_bytes.proofs.write.write_mode.Goals as goal

pub returns-in-Browsing : goal.returns-in-Browsing
unfolding mode_bytes
returns-in-Browsing c = rw c.in-Browsing.is (joined _ 84 85 (0 ∷ []) (low_first 8 0) c.write_byte.ensures c.write_place.ensures refl)

pub returns-in-Visit : goal.returns-in-Visit
unfolding mode_bytes
returns-in-Visit c = rw c.in-Visit.is (joined _ 84 85 (1 ∷ []) (low_first 8 _) c.write_byte-in-Visit.ensures c.write_place-in-Visit.ensures refl)

pub returns-in-Password : goal.returns-in-Password
unfolding mode_bytes
returns-in-Password c = rw c.in-Password.is (joined _ 84 85 (2 ∷ []) (low_first 8 _) c.write_byte-in-Password.ensures c.write_place-in-Password.ensures refl)
