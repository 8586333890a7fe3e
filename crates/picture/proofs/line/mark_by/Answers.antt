-- Each return is the case of the definition that the tests on its path choose.
use Prim.Native.Nat.{ℕ}
use mathlib.Core.Path.{◌≡◌, refl, sym, ◌∙◌}
use mathlib.Core.Bool.{false}
use Rattle.std.specs.Prelude.{Option, None, Some}
use Rattle.std.specs.Option.{is_some}
use Rattle.laws.proofs.Cases.{via, if_true, if_false}
use Rattle.picture.proofs.line.mark_by.Goals as goal

none_is : (m : Option ℕ) → is_some m ≡ false → m ≡ None
none_is None h = refl
none_is (Some m) h = cc

pub returns-then-editable : goal.returns-then-editable
returns-then-editable c = rw (none_is c.args.mark (via c.is_some.ensures c.if-is_some.false)) (sym (if_true _ _ c.if-editable.true))

pub returns-then-last : goal.returns-then-last
returns-then-last c = rw (none_is c.args.mark (via c.is_some.ensures c.if-is_some.false)) (sym (if_false _ _ c.if-editable.false ∙ if_true _ _ c.if-last.true))

pub returns-else-last : goal.returns-else-last
returns-else-last c = rw (none_is c.args.mark (via c.is_some.ensures c.if-is_some.false)) (sym (if_false _ _ c.if-editable.false ∙ if_false _ _ c.if-last.false))
