-- The parts of the row, one after the other.
use mathlib.Core.Path.{refl}
use Rattle.session.proofs.Stepping.{head_there}
use Rattle.picture.proofs.Lines.{password_row_is}
use Rattle.picture.proofs.title.put_password.Goals as goal

pub returns : goal.returns
returns c = password_row_is _ c.args.session.now _ c.args.typed c.requires.0 (head_there _ c.args.session.now.here _ _ c.read_head-h.result refl c.requires.1 c.read_head-h.ensures) c.byte_at-digits.ensures c.saturating_sub.ensures c.put_all-stars.ensures c.repeat-dots.ensures c.repeat-end.ensures c.pad.ensures
