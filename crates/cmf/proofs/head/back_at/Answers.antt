-- The pointer back is where the definition has it; past the image's end there is 0.
use Prim.Native.Nat.{◌+◌}
use mathlib.Core.Path.{◌≡◌, sym, ◌∙◌}
use native.Mathlib.Omega.{arith}
use Rattle.laws.specs.Bytes.{byte_at}
use Rattle.laws.proofs.Lists.{word_past}
use Rattle.cmf.specs.Readers.{back_place}
use Rattle.cmf.proofs.head.back_at.Goals as goal

pub returns-then-p-image : goal.returns-then-p-image
returns-then-p-image c = let p = c.args.p in let tag = byte_at c.args.image.now p in let a : p + c.back_offset.result ≡ back_place p tag = omega (arith, c.back_offset.ensures) in c.word_at.ensures ∙ rw a

pub returns : goal.returns
returns c = sym (word_past c.args.image.now _ (omega (arith, c.if-p-image.false)))
