-- Each return is the case of the definition that the tests on its path choose.
use Prim.Native.Nat.{◌+◌}
use mathlib.Core.Path.{◌∙◌, sym}
use native.Mathlib.Omega.{arith}
use borrow.Author.Tests.{not-true, not-false}
use Rattle.laws.proofs.Cases.{via}
use Rattle.laws.proofs.Rooms.{room_le}
use Rattle.cmf.specs.Readers.{tag_bit}
use Rattle.cmf.proofs.Turning.{texts_inside}
use Rattle.cmf.proofs.Shortcuts.{fixed_short, texts_short, not_given, all_given, option_fixed, option_texts, option_edit}
use Rattle.cmf.proofs.component.option_by.Goals as goal

pub bounds-image-at : goal.bounds-image-at
bounds-image-at c = omega (arith, room_le _ _ _ (via c.room.ensures c.if-not-room.false))

pub overflow_cast-image : goal.overflow_cast-image
overflow_cast-image c = omega (arith, c.type_inv.image (c.args.at + 7))

pub option_read-requires : goal.option_read-requires
option_read-requires c = let h = room_le _ _ _ (via c.room.ensures c.if-not-room.false) in (h, rw c.read_texts-t.ensures (texts_inside c.args.image.now _ _ 0 h (rw c.read_texts-t.ensures at (not-false _ c.if-not-t.false))))

pub returns : goal.returns
returns c = c.option_read.ensures ∙ sym (all_given c.args.image.now c.args.at 0x14 c.args.tag (omega arith) c.read_texts-t.result (rw (option_fixed (tag_bit 32 c.args.tag)) (via c.room.ensures c.if-not-room.false)) (rw (option_fixed (tag_bit 32 c.args.tag), option_texts) c.read_texts-t.ensures) (not-false _ c.if-not-t.false) (rw (← option_edit) (via c.option_given.ensures c.if-not-option_given.false)))

pub returns-then-not-option_given : goal.returns-then-not-option_given
returns-then-not-option_given c = c.refused-then-not-option_given.ensures ∙ sym (not_given c.args.image.now c.args.at 0x14 c.args.tag (omega arith) c.read_texts-t.result (rw (option_fixed (tag_bit 32 c.args.tag)) (via c.room.ensures c.if-not-room.false)) (rw (option_fixed (tag_bit 32 c.args.tag), option_texts) c.read_texts-t.ensures) (not-false _ c.if-not-t.false) (rw (← option_edit) (via c.option_given.ensures c.if-not-option_given.true)))

pub returns-then-not-t : goal.returns-then-not-t
returns-then-not-t c = c.refused-then-not-t.ensures ∙ sym (texts_short c.args.image.now c.args.at 0x14 c.args.tag (omega arith) c.read_texts-t.result (rw (option_fixed (tag_bit 32 c.args.tag)) (via c.room.ensures c.if-not-room.false)) (rw (option_fixed (tag_bit 32 c.args.tag), option_texts) c.read_texts-t.ensures) (not-true _ c.if-not-t.true))

pub returns-then-not-room : goal.returns-then-not-room
returns-then-not-room c = c.refused.ensures ∙ sym (fixed_short c.args.image.now c.args.at 0x14 c.args.tag (omega arith) (rw (option_fixed (tag_bit 32 c.args.tag)) (via c.room.ensures c.if-not-room.true)))
