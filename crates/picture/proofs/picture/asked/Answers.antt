-- Where a row shows the cursor line, it was passed on the way; else all lines are counted.
use Rattle.picture.proofs.Knowing.{mark_known}
use Rattle.picture.proofs.picture.asked.Goals as goal

pub returns-then-here-k : goal.returns-then-here-k
returns-then-here-k c = record {
  more = mark_known _ _ _ c.args.k _ c.requires.1 c.requires.0 c.if-here-k.true;
  line = c.requires.2 c.if-here.true c.if-here-k.true;
  mark = c.requires.3;
}
