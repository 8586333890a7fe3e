-- What the callees ensure, put together.
use Rattle.cmf.proofs.Finding.{next_none, next_found}
use Rattle.cmf.proofs.place.next_editable.Goals as goal

pub returns-then-c : goal.returns-then-c
returns-then-c c = next_none _ _ _ c.read_component-c.ensures c.if-c.true

pub returns : goal.returns
returns c = next_found _ _ _ c.read_component-c.ensures _ c.if-c.false c.first_editable.ensures
