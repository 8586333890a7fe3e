-- Each return is the case of the definition that the tests on its path choose.
use mathlib.Core.Path.{sym, ap, ◌∙◌}
use mathlib.Core.List.{List}
use Prim.Native.Nat.{ℕ}
use lib.ListN.{length}
use Rattle.laws.proofs.Cases.{if_true, if_false}
use Rattle.picture.specs.Cursor.{width_at}
use Rattle.picture.proofs.cursor.width_at.Goals as goal

pub returns-then-c : goal.returns-then-c
unfolding width_at
returns-then-c c = c.width_of.ensures ∙ sym (if_true _ _ c.if-c.true)

pub returns : goal.returns
unfolding width_at
returns c = ap (λ (l : List ℕ). length l) c.string_bytes.ensures ∙ sym (if_false _ _ c.if-c.false)
