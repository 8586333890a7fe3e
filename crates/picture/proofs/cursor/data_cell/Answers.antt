-- What is counted is enough, since the last data cell lies before the end of counting.
use native.Mathlib.Omega.{arith}
use Rattle.picture.proofs.Counting.{data_near}
use Rattle.picture.proofs.cursor.data_cell.Goals as goal

pub returns : goal.returns
returns c = (data_near _ c.args.session _ _ _ _ _ _ _ (omega arith) c.cursor_line.ensures c.cells_before-before.ensures c.read_component-c.ensures c.cell_within.ensures.0 c.saturating_sub.ensures c.min.ensures, omega arith)
