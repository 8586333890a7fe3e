-- By whether there is room.
use Rattle.handset.proofs.Filling.{one_taken, one_dropped}
use Rattle.handset.proofs.fields.Gathering.take.Goals as goal

pub returns-then-self-clause-taken : goal.returns-then-self-clause-taken
returns-then-self-clause-taken c = one_taken c.args.f _ _ _ c.if-self.true c.write_default.ensures

pub returns-else-self-clause-taken : goal.returns-else-self-clause-taken
returns-else-self-clause-taken c = one_dropped c.args.f _ _ _ c.if-self.false c.write_default.ensures
