-- A component more, and the line is done where it was the last.
use borrow.Author.Tests.{eqb-true}
use Rattle.quick.proofs.Positions.{unmarked, part_moves, part_onward}
use Rattle.quick.proofs.accept.take_other.Goals as goal

pub returns : goal.returns
returns c = let g = c.in_ok-tally.ensures in (part_moves _ _ _ c.requires.going c.requires.head g.0 g.1 _ (unmarked _) (eqb-true _ _), part_onward _ _ c.args.s c.requires.going c.requires.head g.0 g.1)
