-- By whether there is such a question.
use Prim.Native.Nat.{◌/◌}
use lib.ListN.{length}
use borrow.Author.Tests.{ltb-true, ltb-false}
use Rattle.laws.proofs.Cases.{via}
use Rattle.marker.proofs.Keys.{question_read, question_past}
use Rattle.marker.proofs.key.question_at.Goals as goal

pub returns-then-has_triple : goal.returns-then-has_triple
returns-then-has_triple c = question_read c.args.key.now c.args.i (ltb-true c.args.i (length c.args.key.now / 3) (via c.has_triple.ensures c.if-has_triple.true))

pub returns : goal.returns
returns c = question_past c.args.key.now c.args.i (ltb-false c.args.i (length c.args.key.now / 3) (via c.has_triple.ensures c.if-has_triple.false))
