-- Each return is the case of the definition that the tests on its path choose.
use Prim.Native.Nat.{◌+◌, ◌/◌, ◌%◌}
use mathlib.Core.Path.{◌≡◌}
use Rattle.cmf.specs.Readers.{texts_from, passwords, options_end, head_by}
use Rattle.cmf.proofs.Turning.{texts_inside, bits_le, head_whole}
use native.Mathlib.Omega.{arith}
use Rattle.laws.specs.Choice.{when◌then◌else◌}
use borrow.Author.Tests.{le-leb, lt-leb, not-true, not-false}
use Rattle.cmf.proofs.head.head_by.Goals as goal
use Rattle.cmf.proofs.head.head_by.Goals.{then-image-options-via-then-image-options, then-image-options-via-else-image-options+then-not-run}

pub overflow_mul-t : goal.overflow_mul-t
overflow_mul-t c = let t = c.args.tag in omega (arith, bits_le (t / 8 % 2) (t / 16 % 2) (omega arith) (omega arith))

pub head_read-requires : goal.head_read-requires
head_read-requires c = (c.requires, rw c.read_texts-run.ensures (texts_inside c.args.image.now _ _ 0 c.if-image-options.false (rw c.read_texts-run.ensures at (not-false _ c.if-not-run.false))))

pub returns : goal.returns
returns c =
    let p = c.args.p in
    let tag = c.args.tag in
    let d : p + c.options_length.result ≡ options_end p tag = omega (arith, c.options_length.ensures) in
    let e : c.read_texts-run.result ≡ texts_from c.args.image.now (passwords tag) (options_end p tag) 0 = rw d at c.read_texts-run.ensures in
    rw (← e) (head_whole c.args.image.now p tag c.read_texts-run.result c.head_read.result (rw d at c.if-image-options.false) (not-false _ c.if-not-run.false) c.if-t.false c.head_read.ensures)

pub returns-then-t : goal.returns-then-t
unfolding head_by when◌then◌else◌
returns-then-t c =
    let p = c.args.p in
    let tag = c.args.tag in
    let d : p + c.options_length.result ≡ options_end p tag = omega (arith, c.options_length.ensures) in
    let e : c.read_texts-run.result ≡ texts_from c.args.image.now (passwords tag) (options_end p tag) 0 = rw d at c.read_texts-run.ensures in
    simp (c.refused-then-t.ensures, ← e, le-leb _ _ (rw d at c.if-image-options.false), (not-false _ c.if-not-run.false), lt-leb _ _ c.if-t.true)

pub returns-then-image-options : goal.returns-then-image-options
unfolding head_by when◌then◌else◌
returns-then-image-options c =
    let p = c.args.p in
    let tag = c.args.tag in
    let d : p + c.options_length.result ≡ options_end p tag = omega (arith, c.options_length.ensures) in
    let e : c.read_texts-run.result ≡ texts_from c.args.image.now (passwords tag) (options_end p tag) 0 = rw d at c.read_texts-run.ensures in
    elim c.then-image-options.branch [
      | then-image-options-via-then-image-options w ↦ simp (c.refused.ensures, lt-leb _ _ (rw d at w.if-image-options.true))
      | then-image-options-via-else-image-options+then-not-run w ↦ simp (c.refused.ensures, ← e, le-leb _ _ (rw d at w.if-image-options.false), not-true _ w.if-not-run.true)
    ]
