-- A string needs no mark, an option is taken with its byte.
use Rattle.quick.proofs.Accepting.{string_passes}
use Rattle.quick.proofs.run.take_plain.Goals as goal

pub returns-then-tag-eq21 : goal.returns-then-tag-eq21
returns-then-tag-eq21 c = rw c.past.ensures (string_passes _ c.in_ok-string_end.ensures)
