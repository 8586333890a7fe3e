-- By whether there is room.
use Prim.Native.Nat.{◌+◌, ◌≤◌}
use mathlib.Core.Path.{sym}
use native.Mathlib.Omega.{arith}
use lib.ListN.{length}
use Rattle.laws.proofs.Cases.{via}
use Rattle.laws.proofs.Rooms.{room_le}
use Rattle.record.proofs.Stores.{behind_fits, behind_out}
use Rattle.record.proofs.number.write_groups.Goals as goal

pub overflow_add-result : goal.overflow_add-result
overflow_add-result c = omega (arith, room_le _ _ _ (via c.room.ensures c.if-room.true))

pub returns-then-room : goal.returns-then-room
returns-then-room c =
    let h : c.args.at + length c.args.groups.now ≤ length c.args.room.now = omega (arith, c.put_bytes.auto.s, room_le _ _ _ (via c.room.ensures c.if-room.true)) in
    (sym (behind_fits _ _ _ h), c.put_bytes.ensures)

pub returns-else-room : goal.returns-else-room
returns-else-room c = (sym (behind_out _ _ _ (rw c.put_bytes.auto.s at (via c.room.ensures c.if-room.false))), c.put_bytes.ensures)
