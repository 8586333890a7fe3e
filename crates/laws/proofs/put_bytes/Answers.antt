-- What is left to copy, written onto what is there, is the whole; with no room the bytes do not fit.
use native.Mathlib.Omega.{arith}
use mathlib.Core.Path.{◌≡◌, sym, ◌∙◌}
use Prim.Native.Nat.{◌+◌}
use Rattle.laws.proofs.Rooms.{room_le, room_lt}
use Rattle.laws.proofs.Frame.{put_out}
use Rattle.laws.proofs.Storing.{copy_turn, copy_end}
use Rattle.laws.proofs.put_bytes.Goals as goal

pub loop-i-init : goal.loop-i-init
loop-i-init c = let z : c.args.at + 0 ≡ c.args.at = omega arith in (rw z, room_le _ _ _ (sym c.room.ensures ∙ c.if-room.true))

pub loop-i-preserved : goal.loop-i-preserved
loop-i-preserved c = (copy_turn _ _ _ _ c.loop-i-test.true (omega arith) ∙ c.loop-i.invariant.0, c.loop-i.invariant.1)

pub returns-after-loop-i : goal.returns-after-loop-i
returns-after-loop-i c = copy_end _ _ c.args.bytes.now c.args.at c.loop-i.i (omega arith) (omega arith) c.loop-i.invariant.0

pub returns-else-room : goal.returns-else-room
returns-else-room c = sym (put_out _ _ _ (room_lt _ _ _ (sym c.room.ensures ∙ c.if-room.false)))
