-- The cells are those of the number.
use Rattle.texts.proofs.text.put_number.Goals as goal

pub returns : goal.returns
returns c = rw (← c.showing-shown.ensures) c.put_cells.ensures
