-- Each return is the case of the definition that the tests on its path choose.
use native.Mathlib.Omega.{arith}
use mathlib.Core.Path.{◌≡◌, sym}
use lib.ListN.{length, length-take}
use Rattle.field.specs.Values.{bytes_of, number_of}
use Rattle.laws.proofs.Numerals.{four_low}
use borrow.Author.Rules.{rules}
use Rattle.field.proofs.value.Value.number.Goals as goal

pub returns : goal.returns
unfolding number_of
returns c = let v = c.args.self in
    let l : length v.bytes ≡ 4 = search rules in
    rw (c.byte.ensures.0, c.byte-2.ensures.0, c.byte-3.ensures.0, c.byte-4.ensures.0)
    (sym (four_low (bytes_of v) (omega (arith, length-take v.count v.bytes))))
