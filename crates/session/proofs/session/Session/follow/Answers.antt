-- Each outcome has its case.
use Rattle.session.specs.Visits.{followed, followed_sheet}
use Rattle.session.proofs.session.Session.follow.Goals as goal

pub returns-in-Taken : goal.returns-in-Taken
unfolding followed followed_sheet
returns-in-Taken c = record { value = simp (c.taken.ensures, c.in_visit.ensures, c.in-Taken.is); sheet_after = simp c.in-Taken.is }

pub returns-in-Flash : goal.returns-in-Flash
unfolding followed followed_sheet
returns-in-Flash c = record { value = simp (c.flash.ensures, c.in-Flash.is); sheet_after = simp c.in-Flash.is }

pub returns-in-NextPart : goal.returns-in-NextPart
unfolding followed followed_sheet
returns-in-NextPart c = record { value = simp (c.taken-in-NextPart.ensures, c.in_visit-in-NextPart.ensures, c.in-NextPart.is); sheet_after = simp c.in-NextPart.is }

pub returns-in-Done : goal.returns-in-Done
unfolding followed followed_sheet
returns-in-Done c = rw c.in-Done.is c.finish.ensures

pub returns-in-Fired : goal.returns-in-Fired
unfolding followed followed_sheet
returns-in-Fired c = record { value = simp c.in-Fired.is; sheet_after = simp c.in-Fired.is }

pub returns-in-Passed : goal.returns-in-Passed
unfolding followed followed_sheet
returns-in-Passed c = record { value = simp (c.taken-in-Passed.ensures, c.moved_on.ensures, c.in-Passed.is); sheet_after = simp c.in-Passed.is }
