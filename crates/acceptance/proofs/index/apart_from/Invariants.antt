-- The loop: the field is apart from the entries so far.
use mathlib.Core.Path.{◌≡◌}
use mathlib.Core.Bool.{true}
use Rattle.acceptance.specs.Check.{apart_from}
use Rattle.acceptance.specs.Index.{listed}
use Rattle.acceptance.proofs.index.apart_from.Given as goal

abbrev pub invariant-loop-i : goal.invariant-loop-i
invariant-loop-i l = apart_from l.e (listed l.index l.i) ≡ true
