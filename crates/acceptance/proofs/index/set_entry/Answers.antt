-- Each return is the case of the definition that the tests on its path choose.
use Rattle.laws.specs.Choice.{when◌then◌else◌}
use borrow.Author.Tests.{ltb-true}
use Rattle.laws.proofs.Cases.{via}
use Rattle.acceptance.specs.Index.{with_entry}
use native.Mathlib.Omega.{arith}
use lib.ListN.{length-set}
use Rattle.acceptance.proofs.index.set_entry.Goals as goal

pub overflow_mul-at : goal.overflow_mul-at
overflow_mul-at c = let e = via c.has_triple.ensures c.if-has_triple.true in omega (arith, ltb-true)

pub offset_bounds-index-at : goal.offset_bounds-index-at
offset_bounds-index-at c = let e = via c.has_triple.ensures c.if-has_triple.true in omega (arith, ltb-true)

pub bounds-index-at : goal.bounds-index-at
bounds-index-at c = let e = via c.has_triple.ensures c.if-has_triple.true in omega (arith, ltb-true)

pub overflow_add-index : goal.overflow_add-index
overflow_add-index c = let e = via c.has_triple.ensures c.if-has_triple.true in omega (arith, ltb-true)

pub offset_bounds-index-at-then-has_triple : goal.offset_bounds-index-at-then-has_triple
offset_bounds-index-at-then-has_triple c = let e = via c.has_triple.ensures c.if-has_triple.true in omega (arith, ltb-true)

pub bounds-index-at-then-has_triple : goal.bounds-index-at-then-has_triple
bounds-index-at-then-has_triple c = let e = via c.has_triple.ensures c.if-has_triple.true in simp length-set (omega (arith, ltb-true))

pub overflow_add-index-then-has_triple : goal.overflow_add-index-then-has_triple
overflow_add-index-then-has_triple c = let e = via c.has_triple.ensures c.if-has_triple.true in omega (arith, ltb-true)

pub offset_bounds-index-at-then-has_triple-2 : goal.offset_bounds-index-at-then-has_triple-2
offset_bounds-index-at-then-has_triple-2 c = let e = via c.has_triple.ensures c.if-has_triple.true in omega (arith, ltb-true)

pub bounds-index-at-then-has_triple-2 : goal.bounds-index-at-then-has_triple-2
bounds-index-at-then-has_triple-2 c = let e = via c.has_triple.ensures c.if-has_triple.true in simp length-set (omega (arith, ltb-true))

pub returns-then-has_triple : goal.returns-then-has_triple
unfolding with_entry when◌then◌else◌
returns-then-has_triple c = simp (via c.has_triple.ensures c.if-has_triple.true)

pub returns-else-has_triple : goal.returns-else-has_triple
unfolding with_entry when◌then◌else◌
returns-else-has_triple c = simp (via c.has_triple.ensures c.if-has_triple.false)
