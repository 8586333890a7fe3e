-- Two cells, one after the other.
use Prim.Native.Nat.{◌+◌, ◌/◌, ◌%◌}
use Rattle.laws.specs.Digits.{low_first}
use Rattle.laws.proofs.Numerals.{length_low}
use Rattle.session_bytes.proofs.Numbers.{eight_low}
use Rattle.session_bytes.proofs.Layouts.{joined}
use native.Mathlib.Omega.{arith}
use Rattle.session_bytes.proofs.number.write_place.Goals as goal

pub returns : goal.returns
returns c = rw (← eight_low c.args.x) (joined _ c.args.at (c.args.at + 4) (low_first 4 (c.args.x % 4294967296)) (low_first 4 (c.args.x / 4294967296)) c.write_cell.ensures c.write_cell-2.ensures (omega (arith, length_low 4 (c.args.x % 4294967296))))
