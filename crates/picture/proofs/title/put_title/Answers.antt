-- The title, blanks, and the marks over the last of them.
use Rattle.picture.proofs.Lines.{title_row_is}
use Rattle.picture.proofs.title.put_title.Goals as goal

pub returns : goal.returns
returns c = title_row_is _ c.args.session.now c.args.known.count c.requires.0 c.requires.1 c.requires.3.more c.text_bytes.ensures c.put_all-end.ensures c.pad.ensures c.edit_mark-edit.ensures c.more_mark-more.ensures c.put_marks.ensures
