-- By the verdict; the sums have room by what is required.
use native.Mathlib.Omega.{arith}
use Rattle.marker.specs.Table.{sum_in, counted}
use Rattle.marker.proofs.mark.Sums.with.Goals as goal

pub overflow_add-result : goal.overflow_add-result
unfolding sum_in
overflow_add-result c = omega (arith, c.requires, c.ranges.points)

pub overflow_add-result-in-Wrong : goal.overflow_add-result-in-Wrong
unfolding sum_in
overflow_add-result-in-Wrong c = omega (arith, c.requires, c.ranges.points)

pub overflow_add-result-in-Blank : goal.overflow_add-result-in-Blank
unfolding sum_in
overflow_add-result-in-Blank c = omega (arith, c.requires, c.ranges.points)

pub returns-in-Right : goal.returns-in-Right
unfolding counted
returns-in-Right c = simp c.in-Right.is

pub returns-in-Wrong : goal.returns-in-Wrong
unfolding counted
returns-in-Wrong c = simp c.in-Wrong.is

pub returns-in-Blank : goal.returns-in-Blank
unfolding counted
returns-in-Blank c = simp c.in-Blank.is
