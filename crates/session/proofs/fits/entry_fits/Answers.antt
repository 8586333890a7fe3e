-- Each return is the case of the definition that the tests on its path choose.
use mathlib.Core.Bool.{false≢true}
use mathlib.Core.Path.{sym, ◌∙◌}
use Rattle.laws.specs.Choice.{◌and◌}
use Rattle.laws.proofs.Cases.{via}
use Rattle.session.specs.Fits.{entry_fits}
use Rattle.session.proofs.fits.entry_fits.Goals as goal
use Rattle.session.proofs.fits.entry_fits.Goals.{then-h, else-h}

pub returns-then-n-byte_at : goal.returns-then-n-byte_at
unfolding entry_fits ◌and◌
returns-then-n-byte_at c = elim c.if-h.branch [
  | then-h w ↦ simp (← c.read_head-h.ensures, w.if-h.true, ← w.byte_at.ensures, via w.value-is c.if-n-byte_at.true, c.digits_to.ensures)
  | else-h w ↦ absurd (false≢true (sym w.if-h.false ∙ via w.value-is c.if-n-byte_at.true))
]

pub returns-else-n-byte_at : goal.returns-else-n-byte_at
unfolding entry_fits ◌and◌
returns-else-n-byte_at c = elim c.if-h.branch [
  | then-h w ↦ simp (c.if-n-byte_at.false, ← c.read_head-h.ensures, w.if-h.true, ← w.byte_at.ensures, via w.value-is c.if-n-byte_at.false)
  | else-h w ↦ simp (c.if-n-byte_at.false, ← c.read_head-h.ensures, w.if-h.false)
]
