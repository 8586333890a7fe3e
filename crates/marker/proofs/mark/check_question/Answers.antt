-- By the tests in the code's order.
use mathlib.Core.Path.{sym}
use native.Mathlib.Omega.{arith}
use borrow.Author.Tests.{tests}
use Rattle.laws.proofs.Cases.{choices}
use Rattle.handset.proofs.Ordering.{holding, failing}
use Rattle.marker.specs.Table.{fits_by}
use Rattle.marker.proofs.mark.check_question.Goals as goal
use Rattle.marker.proofs.mark.check_question.Goals.{then-number-eq0-via-then-number-eq0, then-number-eq0-via-else-number-eq0+then-q-gt-MAX_BYTE}
use Rattle.marker.proofs.mark.check_question.Goals.{then-number-eq0-via-else-number-eq0+else-q-gt-MAX_BYTE+then-q-number}
use Rattle.marker.proofs.mark.check_question.Goals.{then-number-eq0-via-else-number-eq0+else-q-gt-MAX_BYTE+else-q-number+then-q-gt-MAX_POINTS}

pub returns-then-number-eq0 : goal.returns-then-number-eq0
unfolding fits_by
returns-then-number-eq0 c = sym (failing 15 _ (elim c.then-number-eq0.branch [
  | then-number-eq0-via-then-number-eq0 w ↦ sym (search (choices, arith))
  | then-number-eq0-via-else-number-eq0+then-q-gt-MAX_BYTE w ↦ sym (search (choices, arith))
  | then-number-eq0-via-else-number-eq0+else-q-gt-MAX_BYTE+then-q-number w ↦ sym (search (choices, arith))
  | then-number-eq0-via-else-number-eq0+else-q-gt-MAX_BYTE+else-q-number+then-q-gt-MAX_POINTS w ↦ sym (search (choices, tests, arith))
]))

pub returns : goal.returns
unfolding fits_by
returns c = sym (holding 15 _ (sym (search (choices, tests, arith))))
