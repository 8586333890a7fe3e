-- The length is asked first, and then the digits, as in the definition.
use Rattle.laws.specs.Choice.{◌and◌}
use borrow.Author.Tests.{le-leb, lt-leb}
use Rattle.cmf.specs.Readers.{password_fits}
use Rattle.cmf.proofs.text.password_fits.Goals as goal
use Rattle.cmf.proofs.text.password_fits.Goals.{then-n-lt1-via-then-n-lt1, then-n-lt1-via-else-n-lt1+then-n-gt-MAX_PASSWORD}

pub returns-then-n-lt1 : goal.returns-then-n-lt1
unfolding password_fits ◌and◌
returns-then-n-lt1 c =
    elim c.then-n-lt1.branch [
      | then-n-lt1-via-then-n-lt1 w ↦ simp (← c.byte_at-n.ensures, lt-leb _ _ w.if-n-lt1.true)
      | then-n-lt1-via-else-n-lt1+then-n-gt-MAX_PASSWORD w ↦
          simp (← c.byte_at-n.ensures, le-leb _ _ w.if-n-lt1.false, lt-leb _ _ w.if-n-gt-MAX_PASSWORD.true)
    ]

pub returns : goal.returns
unfolding password_fits ◌and◌
returns c = simp (c.all_digits.ensures, ← c.byte_at-n.ensures, le-leb _ _ c.if-n-lt1.false, le-leb _ _ c.if-n-gt-MAX_PASSWORD.false)
