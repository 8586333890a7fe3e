-- What the callees ensure, put together.
use Rattle.cmf.specs.Readers.{submenu_place, options_end}
use Prim.Native.Nat.{◌+◌, ◌/◌, ◌%◌}
use mathlib.Core.Path.{◌≡◌}
use native.Mathlib.Nat.{div-one}
use native.Mathlib.Omega.{arith}
use Rattle.cmf.proofs.Turning.{bits_le}
use Rattle.cmf.proofs.head.head_read.Goals as goal

pub overflow_mul-protected : goal.overflow_mul-protected
overflow_mul-protected c = let t = c.args.tag in omega (arith, bits_le (t / 8 % 2) (t / 16 % 2) (omega arith) (omega arith))

pub returns : goal.returns
returns c = let p = c.args.p in let tag = c.args.tag in let b : p + c.submenu_offset.result ≡ submenu_place p tag = omega (arith, c.submenu_offset.ensures) in let d : p + c.options_length.result ≡ options_end p tag = omega (arith, c.options_length.ensures) in simp (div-one, c.is_typeable.ensures, c.word_at-a.ensures, c.word_at-d.ensures, b, d)
