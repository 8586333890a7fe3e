-- Part after part.
use mathlib.Core.Path.{refl}
use Rattle.texts.proofs.Writing.{put_then}
use Rattle.texts.proofs.Texting.{decimal_as, time_long, time_short}
use Rattle.texts.proofs.text.put_time.Goals as goal

pub returns-then-long : goal.returns-then-long
returns-then-long c = time_long _ _ c.if-long.true (put_then (decimal_as refl c.cell_at.ensures c.put_decimal-hours.ensures) (put_then c.put-colon.ensures (put_then (decimal_as refl c.cell_at-2.ensures c.put_decimal-minutes.ensures) (put_then c.put-colon-then-long.ensures (decimal_as refl c.cell_at-then-long.ensures c.put_decimal.ensures)))))

pub returns : goal.returns
returns c = time_short _ _ c.if-long.false (put_then (decimal_as refl c.cell_at.ensures c.put_decimal-hours.ensures) (put_then c.put-colon.ensures (decimal_as refl c.cell_at-2.ensures c.put_decimal-minutes.ensures)))
