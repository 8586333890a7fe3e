-- The least of two numbers is the one that the test chooses.
use Rattle.laws.proofs.Cases.{min_when}
use Rattle.field.specs.Formats.{digits_in}
use Rattle.field.proofs.kind.Format.digits_in.Goals as goal

pub returns : goal.returns
unfolding digits_in
returns c = rw c.min.ensures (min_when c.args.self.digits 5)
