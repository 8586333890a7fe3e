-- Each return is the case of the definition that the tests on its path choose.
use native.Mathlib.Omega.{arith}
use Rattle.laws.specs.Choice.{when◌then◌else◌}
use Prim.Native.Nat.{◌+◌, ◌-◌}
use mathlib.Core.Path.{◌≡◌}
use lib.ListN.{length}
use Rattle.cmf.specs.Readers.{text_bytes}
use Rattle.laws.proofs.Cases.{via}
use Rattle.laws.proofs.Rooms.{room_le}
use Rattle.cmf.proofs.text.text_bytes.Goals as goal

pub overflow_add-start : goal.overflow_add-start
overflow_add-start c = omega (arith, room_le (length c.args.image.now) c.args.at (1 + c.byte_at-n.result) (via c.room.ensures c.if-room.true))

pub overflow_add-end : goal.overflow_add-end
overflow_add-end c = omega (arith, room_le (length c.args.image.now) c.args.at (1 + c.byte_at-n.result) (via c.room.ensures c.if-room.true))

pub slice_bounds-result-end : goal.slice_bounds-result-end
slice_bounds-result-end c = omega (arith, room_le (length c.args.image.now) c.args.at (1 + c.byte_at-n.result) (via c.room.ensures c.if-room.true))

pub returns-then-room : goal.returns-then-room
unfolding text_bytes when◌then◌else◌
returns-then-room c = let z : c.args.at + 1 + c.byte_at-n.result - (c.args.at + 1) ≡ c.byte_at-n.result = omega arith in simp (← c.byte_at-n.ensures, ← c.room.ensures, c.if-room.true, z)

pub returns : goal.returns
unfolding text_bytes when◌then◌else◌
returns c = simp (← c.byte_at-n.ensures, ← c.room.ensures, c.if-room.false)
