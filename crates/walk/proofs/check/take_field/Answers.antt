-- There is room for the field where the index has a triple for it; then the entries with it are those of the definition.
use Prim.Native.Nat.{ℕ, ◌<◌}
use mathlib.Core.Path.{◌≡◌}
use mathlib.Core.Bool.{Bool, true}
use native.Mathlib.Omega.{arith}
use Rattle.laws.specs.Choice.{when◌then◌else◌, ◌<?◌}
use borrow.Author.Tests.{ltb-true, lt-leb}
use Rattle.acceptance.specs.Check.{take_field}
use Rattle.acceptance.specs.Index.{capacity}
use Rattle.acceptance.proofs.CodeSteps.{listed_new}
use Rattle.acceptance.proofs.Indexed.{clean_set}
use Rattle.laws.proofs.Cases.{via}
use Rattle.walk.proofs.check.take_field.Goals as goal

-- what the test for room says of the numbers
there : (k most : ℕ) {r : Bool} → r ≡ (k <? most) → r ≡ true → k < most
there k most e h = ltb-true k most (via e h)

pub overflow_add-result : goal.overflow_add-result
overflow_add-result c = omega (arith, there c.args.w.fields (capacity c.args.index.now) c.has_triple.ensures c.if-not-has_triple.false)

pub returns : goal.returns
unfolding take_field when◌then◌else◌
returns c =
    let room = there c.args.w.fields (capacity c.args.index.now) c.has_triple.ensures c.if-not-has_triple.false in
    record {
      index_after = simp (lt-leb _ _ room, c.in_default.is, ← c.of_field-entry.ensures, via c.in_sheet.ensures c.if-not-in_sheet.false, via c.apart_from.ensures c.if-not-apart_from.false, c.set_entry.ensures, listed_new c.args.index.now c.args.w.fields c.of_field-entry.result room);
      stays_clean = λ h. rw c.set_entry.ensures (clean_set _ _ _ h);
    }
