-- What the callees ensure, put together.
use native.Mathlib.Omega.{arith}
use mathlib.Core.Path.{◌≡◌}
use lib.ListN.{length, length-take}
use borrow.Author.Rules.{rules}
use Rattle.field.proofs.value.Value.len.Goals as goal

pub returns : goal.returns
returns c = let v = c.args.self in let l : length v.bytes ≡ 4 = search rules in omega (arith, c.min.ensures, length-take v.count v.bytes)
