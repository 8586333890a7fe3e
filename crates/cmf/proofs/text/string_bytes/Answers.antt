-- Past the image there is no text.
use mathlib.Core.Path.{sym}
use Prim.Native.Nat.{◌+◌}
use native.Mathlib.Omega.{arith}
use Rattle.cmf.proofs.Turning.{text_out}
use Rattle.cmf.proofs.text.string_bytes.Goals as goal

pub returns : goal.returns
returns c = sym (text_out c.args.image.now (c.args.place + 1) (omega arith))
