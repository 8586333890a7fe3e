-- The cursor's mark, the data, then blanks.
use mathlib.Core.Path.{◌∙◌}
use Rattle.texts.specs.Texts.{blank}
use Rattle.texts.proofs.Writing.{put_then, padded}
use Rattle.picture.proofs.line.put_start.Goals as goal

pub returns : goal.returns
returns c = record { value = c.put_data-data.ensures.1; row_after = padded blank (put_then c.put-start.ensures c.put_data-data.ensures.0) c.pad.ensures ∙ rw c.cursor_mark.ensures }
