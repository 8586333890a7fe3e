-- The Vec is as long as what came, or longer, and no longer than the room where it wasn't at first.
use Rattle.std.proofs.Common.{◌-◌, ◌≤◌, vec_len}
use Rattle.console.proofs.file.read_all.Given as goal

abbrev pub invariant-loop-count : goal.invariant-loop-count
invariant-loop-count g l = (l.count ≤ vec_len l.bytes) × (vec_len l.fn.bytes ≤ l.room → vec_len l.bytes ≤ l.room)

abbrev pub decreases-loop-count : goal.decreases-loop-count
decreases-loop-count g l = l.room - l.count
