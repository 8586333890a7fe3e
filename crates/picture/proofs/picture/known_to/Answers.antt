-- Where the line is not there, all lines are counted.
use native.Mathlib.Omega.{arith}
use borrow.Author.Tests.{ltb-true, ltb-false}
use Rattle.cmf.specs.Places.{line_count}
use Rattle.cmf.proofs.Finding.{found_none, found_at}
use Rattle.picture.proofs.picture.known_to.Goals as goal

pub returns-in-Some : goal.returns-in-Some
returns-in-Some c = let f = found_at _ c.reach-line.ensures c.in-Some.is in (omega (arith, ltb-true c.args.k (line_count c.args.image.now c.args.table) f.0), f.1)

pub returns-in-None : goal.returns-in-None
returns-in-None c = (omega (arith, c.line_count.ensures, ltb-false c.args.k (line_count c.args.image.now c.args.table) (found_none _ c.reach-line.ensures c.in-None.is)), c.line_at.ensures)
