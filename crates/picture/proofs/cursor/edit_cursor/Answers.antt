-- Each mode has its case.
use Rattle.std.proofs.Common.{inl, inr}
use Rattle.picture.specs.Cursor.{cursor_place, cursor_in}
use Rattle.picture.proofs.cursor.edit_cursor.Goals as goal

pub returns-in-Browsing : goal.returns-in-Browsing
unfolding cursor_place cursor_in
returns-in-Browsing c = elim c.in-Browsing.is [ inl p ↦ simp p | inr p ↦ simp p.1 ]

pub returns-in-Visit : goal.returns-in-Visit
unfolding cursor_place cursor_in
returns-in-Visit c = simp (c.in-Visit.is, c.data_cell.ensures.0, c.saturating_sub.ensures)
