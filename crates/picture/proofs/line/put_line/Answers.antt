-- All but the last cell, then the mark of the submenu.
use Rattle.picture.proofs.Lines.{line_row_is, line_marked}
use Rattle.picture.proofs.line.put_line.Goals as goal

pub returns : goal.returns
returns c = record { value = line_marked _ c.args.p _ c.args.h c.requires.2 c.put_start-mark.ensures.value; row_after = line_row_is _ _ c.args.session.now c.args.k c.args.p c.args.h c.args.row.now c.requires.0 c.requires.1 c.requires.2 c.put_start-mark.ensures.row_after c.submenu_mark.ensures }
