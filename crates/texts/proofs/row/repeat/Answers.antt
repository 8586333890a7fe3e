-- The part of the row that the bytes have room in comes back filled.
use native.Mathlib.Omega.{arith}
use Rattle.texts.proofs.Writing.{put_out, put_filled}
use Rattle.texts.proofs.row.repeat.Goals as goal

pub returns-then-row-at : goal.returns-then-row-at
returns-then-row-at c = put_out c.args.row.now _ c.args.at c.if-row-at.true

pub returns : goal.returns
returns c = put_filled c.args.row.now _ c.args.at _ c.args.byte c.args.count c.if-row-at.false (omega arith) (c.fill.ensures.after (λ y e. e))
