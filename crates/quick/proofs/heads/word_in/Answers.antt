-- Both bytes are below 256.
use mathlib.Core.Path.{refl}
use native.Mathlib.Omega.{arith}
use Prim.Native.Nat.{◌+◌}
use Rattle.laws.specs.Bytes.{word_at}
use Rattle.quick.proofs.heads.word_in.Goals as goal

pub returns : goal.returns
unfolding word_at
returns c = (refl, omega (arith, c.type_inv.image c.args.at, c.type_inv.image (c.args.at + 1)))
