-- Short of a password and with room for every option the tests of the definition are settled.
use native.Mathlib.Omega.{arith}
use mathlib.Core.Path.{◌∙◌, sym}
use Rattle.laws.proofs.Cases.{via}
use Rattle.laws.proofs.Rooms.{room_le}
use Rattle.cmf.proofs.Turning.{head_short}
use Rattle.cmf.proofs.head.read_head.Goals as goal

pub bounds-image-p : goal.bounds-image-p
bounds-image-p c = omega (arith, room_le _ _ _ (via c.room.ensures c.if-room.true))

pub short_head-requires : goal.short_head-requires
short_head-requires c = (room_le _ _ _ (via c.room.ensures c.if-room.true), c.if-tag-lt16.true)

pub returns-then-tag-lt16 : goal.returns-then-tag-lt16
returns-then-tag-lt16 c = c.short_head.ensures ∙ sym (head_short c.args.image.now c.args.p (room_le _ _ _ (via c.room.ensures c.if-room.true)) c.if-tag-lt16.true)

pub returns : goal.returns
returns c = c.any_head-other.ensures
