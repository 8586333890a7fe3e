-- Two cells, one after the other.
use Rattle.session_bytes.proofs.Numbers.{eight_read}
use Rattle.session_bytes.proofs.number.place_at.Goals as goal

pub returns : goal.returns
returns c = rw (c.cell_at.ensures, c.cell_at-2.ensures) (eight_read c.args.bytes.now c.args.at)
