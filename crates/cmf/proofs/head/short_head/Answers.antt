-- What the callees ensure, put together; there is no password.
use Rattle.cmf.specs.Readers.{submenu_place, options_end}
use Prim.Native.Nat.{◌+◌}
use mathlib.Core.Path.{◌≡◌}
use native.Mathlib.Omega.{arith}
use native.Mathlib.Nat.{div-one}
use Rattle.laws.specs.Choice.{when◌then◌else◌}
use Rattle.cmf.proofs.Turning.{no_password}
use Rattle.cmf.proofs.head.short_head.Goals as goal

pub returns : goal.returns
unfolding when◌then◌else◌
returns c = let p = c.args.p in let tag = c.args.tag in let b : p + c.submenu_offset.result ≡ submenu_place p tag = omega (arith, c.submenu_offset.ensures) in let d : p + c.options_length.result ≡ options_end p tag = omega (arith, c.options_length.ensures) in simp (div-one, no_password tag c.requires.1, c.word_in.ensures.0, c.word_in-2.ensures.0, b, d)
