-- Each return is the case of the definition that the tests on its path choose.
use Rattle.laws.specs.Choice.{◌and◌}
use borrow.Author.Tests.{le-leb, lt-leb}
use Rattle.session.specs.Fits.{shape_fits}
use Rattle.session.proofs.fits.shape_fits.Goals as goal
use Rattle.session.proofs.fits.shape_fits.Goals.{then-columns-lt-MIN_COLUMNS-via-then-columns-lt-MIN_COLUMNS, then-columns-lt-MIN_COLUMNS-via-else-columns-lt-MIN_COLUMNS+then-columns-gt-MAX_COLUMNS}

pub returns-then-columns-lt-MIN_COLUMNS : goal.returns-then-columns-lt-MIN_COLUMNS
unfolding shape_fits ◌and◌
returns-then-columns-lt-MIN_COLUMNS c = elim c.then-columns-lt-MIN_COLUMNS.branch [
  | then-columns-lt-MIN_COLUMNS-via-then-columns-lt-MIN_COLUMNS w ↦ simp (lt-leb _ _ w.if-columns-lt-MIN_COLUMNS.true)
  | then-columns-lt-MIN_COLUMNS-via-else-columns-lt-MIN_COLUMNS+then-columns-gt-MAX_COLUMNS w ↦ simp (le-leb _ _ w.if-columns-lt-MIN_COLUMNS.false, lt-leb _ _ w.if-columns-gt-MAX_COLUMNS.true)
]

pub returns-then-lines-ge-MIN_LINES : goal.returns-then-lines-ge-MIN_LINES
unfolding shape_fits ◌and◌
returns-then-lines-ge-MIN_LINES c = simp (le-leb _ _ c.if-columns-lt-MIN_COLUMNS.false, le-leb _ _ c.if-columns-gt-MAX_COLUMNS.false, le-leb _ _ c.if-lines-ge-MIN_LINES.true)

pub returns-else-lines-ge-MIN_LINES : goal.returns-else-lines-ge-MIN_LINES
unfolding shape_fits ◌and◌
returns-else-lines-ge-MIN_LINES c = simp (le-leb _ _ c.if-columns-lt-MIN_COLUMNS.false, le-leb _ _ c.if-columns-gt-MAX_COLUMNS.false, lt-leb _ _ c.if-lines-ge-MIN_LINES.false)
