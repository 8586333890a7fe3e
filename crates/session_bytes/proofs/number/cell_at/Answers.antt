-- Each byte is below 256, so that the four fit.
use Rattle.session_bytes.proofs.Numbers.{four_read}
use Rattle.session_bytes.proofs.number.cell_at.Goals as goal

pub returns : goal.returns
returns c = four_read c.args.bytes.now c.args.at
