-- One cell, or none past the end.
use Rattle.texts.proofs.Writing.{put_in, put_out}
use Rattle.texts.proofs.row.put.Goals as goal

pub returns-then-at-row : goal.returns-then-at-row
returns-then-at-row c = put_in c.args.row.now c.args.at c.args.byte c.if-at-row.true

pub returns : goal.returns
returns c = put_out c.args.row.now _ c.args.at c.if-at-row.false
