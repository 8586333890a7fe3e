-- The invariant: the tables from here on fit exactly where all of them do. Each return is the case of the definition that the tests on its path choose.
use Prim.Native.Nat.{◌≤◌}
use mathlib.Core.Path.{◌≡◌}
use lib.ListN.{length, take, drop}
use Rattle.session.specs.Fits.{levels_fit}
use Rattle.session.proofs.fits.shown_line.Given as goal

abbrev pub invariant-loop-i : goal.invariant-loop-i
invariant-loop-i l = (levels_fit l.image l.lines l.t (drop l.i (take l.count l.above)) l.here ≡ levels_fit l.image l.lines l.initial.t (take l.count l.above) l.here) × (l.count ≤ length l.above)
