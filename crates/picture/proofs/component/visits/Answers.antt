-- Each return is the case of the definition that the tests on its path choose.
use Rattle.std.proofs.Common.{inl, inr}
use Rattle.picture.specs.Rows.{visiting}
use Rattle.picture.proofs.component.visits.Goals as goal

pub returns-in-Browsing : goal.returns-in-Browsing
unfolding visiting
returns-in-Browsing c = elim c.in-Browsing.is [ inl p ↦ simp p | inr p ↦ simp p.1 ]

pub returns-in-Visit : goal.returns-in-Visit
unfolding visiting
returns-in-Visit c = simp c.in-Visit.is
