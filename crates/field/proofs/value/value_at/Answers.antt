-- What the callees ensure, put together.
use Rattle.field.proofs.Padded.{part_four, part_none}
use Rattle.field.proofs.value.value_at.Goals as goal

pub returns-then-at-bytes : goal.returns-then-at-bytes
returns-then-at-bytes c = simp (c.if_below-a.ensures, c.if_below-b.ensures, c.if_below-c.ensures, c.if_below-d.ensures, c.byte_at.ensures, c.byte_at-then-at-bytes.ensures, c.byte_at-then-at-bytes-2.ensures, c.byte_at-then-at-bytes-3.ensures, part_four)

pub returns : goal.returns
returns c = rw (part_none c.args.at c.args.count c.args.bytes.now c.if-at-bytes.false)
