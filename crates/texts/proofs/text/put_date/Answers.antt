-- Part after part.
use mathlib.Core.Path.{refl}
use Rattle.texts.specs.Texts.{date_text}
use Rattle.texts.proofs.Writing.{put_then}
use Rattle.texts.proofs.Texting.{decimal_as}
use Rattle.texts.proofs.text.put_date.Goals as goal

pub returns : goal.returns
unfolding date_text
returns c = put_then (decimal_as c.year_cells.ensures c.cell_at.ensures c.put_decimal-year.ensures) (put_then c.put-dash.ensures (put_then (decimal_as refl c.cell_at-2.ensures c.put_decimal-month.ensures) (put_then c.put-dash-2.ensures (decimal_as refl c.cell_at-3.ensures c.put_decimal.ensures))))
