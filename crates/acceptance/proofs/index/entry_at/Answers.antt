-- Each return is the case of the definition that the tests on its path choose.
use Rattle.laws.specs.Choice.{when◌then◌else◌}
use borrow.Author.Tests.{ltb-true}
use Rattle.laws.proofs.Cases.{via}
use Rattle.acceptance.specs.Index.{entry_at}
use native.Mathlib.Omega.{arith}
use Rattle.acceptance.proofs.index.entry_at.Goals as goal

pub overflow_mul-at : goal.overflow_mul-at
overflow_mul-at c = let e = via c.has_triple.ensures c.if-has_triple.true in omega (arith, ltb-true)

pub offset_bounds-index-at : goal.offset_bounds-index-at
offset_bounds-index-at c = let e = via c.has_triple.ensures c.if-has_triple.true in omega (arith, ltb-true)

pub bounds-index-at : goal.bounds-index-at
bounds-index-at c = let e = via c.has_triple.ensures c.if-has_triple.true in omega (arith, ltb-true)

pub overflow_add-result : goal.overflow_add-result
overflow_add-result c = let e = via c.has_triple.ensures c.if-has_triple.true in omega (arith, ltb-true)

pub offset_bounds-index-at-then-has_triple : goal.offset_bounds-index-at-then-has_triple
offset_bounds-index-at-then-has_triple c = let e = via c.has_triple.ensures c.if-has_triple.true in omega (arith, ltb-true)

pub bounds-index-at-then-has_triple : goal.bounds-index-at-then-has_triple
bounds-index-at-then-has_triple c = let e = via c.has_triple.ensures c.if-has_triple.true in omega (arith, ltb-true)

pub overflow_add-result-then-has_triple : goal.overflow_add-result-then-has_triple
overflow_add-result-then-has_triple c = let e = via c.has_triple.ensures c.if-has_triple.true in omega (arith, ltb-true)

pub offset_bounds-index-at-then-has_triple-2 : goal.offset_bounds-index-at-then-has_triple-2
offset_bounds-index-at-then-has_triple-2 c = let e = via c.has_triple.ensures c.if-has_triple.true in omega (arith, ltb-true)

pub bounds-index-at-then-has_triple-2 : goal.bounds-index-at-then-has_triple-2
bounds-index-at-then-has_triple-2 c = let e = via c.has_triple.ensures c.if-has_triple.true in omega (arith, ltb-true)

pub returns-then-has_triple : goal.returns-then-has_triple
unfolding entry_at when◌then◌else◌
returns-then-has_triple c = simp (via c.has_triple.ensures c.if-has_triple.true)

pub returns : goal.returns
unfolding entry_at when◌then◌else◌
returns c = simp (via c.has_triple.ensures c.if-has_triple.false)
