-- Four stores inside.
use native.Mathlib.Omega.{arith}
use Rattle.session_bytes.proofs.Numbers.{four_low}
use Rattle.session_bytes.proofs.number.write_cell.Goals as goal

pub returns : goal.returns
returns c = four_low c.args.bytes.now c.args.at c.args.x (omega arith)
