-- One cell after the other.
use Rattle.texts.proofs.Writing.{put_then}
use Rattle.texts.proofs.text.put_trigger.Goals as goal

pub returns : goal.returns
returns c = put_then c.put-star.ensures (put_then c.put-end.ensures c.put.ensures)
