-- The count of bits, and the default in them.
use mathlib.Core.Path.{refl}
use Rattle.quick.proofs.Pieces.{switch_good}
use Rattle.quick.proofs.texts.switch_fits.Goals as goal

pub returns-then-bits-le-MAX_BITS : goal.returns-then-bits-le-MAX_BITS
returns-then-bits-le-MAX_BITS c = λ e. (c.if-bits-le-MAX_BITS.true.0, switch_good c.args.image.now c.args.at _ c.if-bits-le-MAX_BITS.true.0 c.if-bits-le-MAX_BITS.true.1 (rw (c.word_in.ensures.0, c.word_in-2.ensures.0) refl) (c.is_in_bits.ensures e))
