-- Its fixed bytes are its tag, its settings are a trigger's, and section 7 gives it.
use Prim.Native.Nat.{◌≤◌}
use mathlib.Core.Path.{◌≡◌, ◌∙◌, sym}
use native.Mathlib.Omega.{arith}
use borrow.Author.Tests.{not-true, not-false}
use lib.ListN.{length}
use Rattle.laws.proofs.Rooms.{le_room}
use Rattle.cmf.specs.Readers.{tag_bit}
use Rattle.cmf.proofs.Turning.{texts_inside}
use Rattle.cmf.proofs.Shortcuts.{texts_short, all_given, string_texts, string_fixed, string_given, string_read}
use Rattle.cmf.proofs.component.string_by.Goals as goal

pub overflow_add-result : goal.overflow_add-result
overflow_add-result c = let h : c.read_texts-t.result.end ≤ length c.args.image.now = rw c.read_texts-t.ensures (texts_inside c.args.image.now _ _ 0 (omega arith) (rw c.read_texts-t.ensures at (not-false _ c.if-not-t.false))) in
    omega arith

pub returns : goal.returns
returns c = let im = c.args.image.now in let z : tag_bit 32 c.args.tag ≡ 0 = omega arith in rw c.trigger.ensures (string_read c.args.tag z im c.args.at c.read_texts-t.result.end) ∙ sym (all_given im c.args.at 0x15 c.args.tag (omega arith) c.read_texts-t.result (rw (string_fixed c.args.tag z) (le_room (length im) c.args.at 1 (omega arith))) (rw (string_fixed c.args.tag z, string_texts) c.read_texts-t.ensures) (not-false _ c.if-not-t.false) (string_given c.args.tag z im c.args.at c.read_texts-t.result))

pub returns-then-not-t : goal.returns-then-not-t
returns-then-not-t c = let im = c.args.image.now in let z : tag_bit 32 c.args.tag ≡ 0 = omega arith in c.refused.ensures ∙ sym (texts_short im c.args.at 0x15 c.args.tag (omega arith) c.read_texts-t.result (rw (string_fixed c.args.tag z) (le_room (length im) c.args.at 1 (omega arith))) (rw (string_fixed c.args.tag z, string_texts) c.read_texts-t.ensures) (not-true _ c.if-not-t.true))
