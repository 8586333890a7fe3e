-- Each return is the case of the definition that the tests on its path choose.
use Rattle.field.proofs.Padded.{low_four}
use Rattle.field.specs.Values.{value_from}
use Rattle.field.proofs.value.Value.from_number.Goals as goal

pub returns : goal.returns
unfolding value_from
returns c = simp (c.if_below.ensures, c.if_below-2.ensures, c.if_below-3.ensures, c.if_below-4.ensures, c.to_le_bytes.ensures, low_four)
