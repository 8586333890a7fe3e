-- The part of the text that the row has room for is copied.
use Rattle.texts.proofs.Writing.{put_out, put_copied}
use native.Mathlib.Omega.{arith}
use Rattle.texts.proofs.row.put_all.Goals as goal

pub returns-then-row-at : goal.returns-then-row-at
returns-then-row-at c = put_out c.args.row.now _ c.args.at c.if-row-at.true

pub returns : goal.returns
returns c = put_copied c.args.row.now _ _ c.args.at _ c.if-row-at.false (omega (arith, c.min-count.ensures)) c.put_bytes.ensures
