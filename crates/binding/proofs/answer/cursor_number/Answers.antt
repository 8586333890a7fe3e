-- Each case of the cursor has its number, which fits by what is required.
use Rattle.picture.specs.Cursor.{cursor_place}
use Rattle.binding.specs.Answers.{cursor_number}
use native.Mathlib.Omega.{arith}
use Rattle.binding.proofs.answer.cursor_number.Goals as goal

pub overflow_cast-result : goal.overflow_cast-result
unfolding cursor_number cursor_place
overflow_cast-result c = omega (arith, rw c.in-Some.is at c.requires)

pub overflow_mul-result : goal.overflow_mul-result
unfolding cursor_number cursor_place
overflow_mul-result c = omega (arith, rw c.in-Some.is at c.requires)

pub overflow_add-result : goal.overflow_add-result
unfolding cursor_number cursor_place
overflow_add-result c = omega (arith, rw c.in-Some.is at c.requires)

pub overflow_cast-result-in-Some : goal.overflow_cast-result-in-Some
unfolding cursor_number cursor_place
overflow_cast-result-in-Some c = omega (arith, rw c.in-Some.is at c.requires)

pub overflow_add-result-in-Some : goal.overflow_add-result-in-Some
unfolding cursor_number cursor_place
overflow_add-result-in-Some c = omega (arith, rw c.in-Some.is at c.requires)

pub returns-in-None : goal.returns-in-None
unfolding cursor_number cursor_place
returns-in-None c = simp c.in-None.is

pub returns-in-Some : goal.returns-in-Some
unfolding cursor_number cursor_place
returns-in-Some c = simp c.in-Some.is
