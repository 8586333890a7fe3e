-- Row 0 is that of the entry, or the title's.
use Rattle.std.proofs.Common.{inl, inr}
use Rattle.picture.specs.Rows.{top_row_in}
use Rattle.picture.proofs.title.put_top.Goals as goal

pub returns-in-Password : goal.returns-in-Password
unfolding top_row_in
returns-in-Password c = rw c.in-Password.is c.put_password.ensures

pub returns-in-Browsing : goal.returns-in-Browsing
unfolding top_row_in
returns-in-Browsing c = elim c.in-Browsing.is [ inl q ↦ rw q c.put_title.ensures | inr q ↦ rw q.1 c.put_title.ensures ]
