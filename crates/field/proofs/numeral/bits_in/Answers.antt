-- The least of two numbers is the one that the test chooses.
use Rattle.laws.proofs.Cases.{min_when}
use Rattle.field.specs.Formats.{bits_in}
use Rattle.field.proofs.numeral.bits_in.Goals as goal

pub returns : goal.returns
unfolding bits_in
returns c = rw c.min.ensures (min_when c.args.n 32)
