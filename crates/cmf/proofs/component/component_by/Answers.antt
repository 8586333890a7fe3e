-- The fixed bytes are there, and the texts after them end in the image.
use mathlib.Core.Path.{◌∙◌, sym}
use native.Mathlib.Omega.{arith}
use lib.ListN.{length}
use Rattle.laws.proofs.Cases.{via}
use Rattle.laws.proofs.Rooms.{room_le}
use Rattle.cmf.proofs.Turning.{texts_inside}
use Rattle.cmf.proofs.Shortcuts.{fixed_short}
use Rattle.cmf.proofs.component.component_by.Goals as goal

pub laid_out-requires : goal.laid_out-requires
laid_out-requires c =
    let im = c.args.image.now in
    let r = rw c.fixed_bytes-fixed.ensures.0 at (via c.room.ensures c.if-not-room.false) in
    (c.requires.0, c.requires.1, r, λ f. rw c.read_texts-t.ensures (texts_inside im _ _ 0 (omega (arith, c.fixed_bytes-fixed.ensures.0, room_le (length im) c.args.at _ r)) (rw c.read_texts-t.ensures at f)))

pub returns-then-not-room : goal.returns-then-not-room
returns-then-not-room c =
    c.refused-then-not-room.ensures ∙ sym (fixed_short c.args.image.now c.args.at c.args.code c.args.tag c.if-code-ge-CODES.false (rw c.fixed_bytes-fixed.ensures.0 at (via c.room.ensures c.if-not-room.true)))
