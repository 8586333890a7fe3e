-- The cells and parts that keys go to, as options: whether there is one is a test of the definitions.
use Rattle.std.proofs.Common.{Option, None, Some, unwrap_or}
use Rattle.std.specs.Prelude.{SomeIff, MatchOption}
use Prim.Native.Nat.{ℕ, ◌+◌, ◌-◌, ◌≤◌, ◌<◌}
use mathlib.Core.Path.{◌≡◌, sym, ◌∙◌}
use mathlib.Core.Bool.{Bool, true, false}
use native.Mathlib.Omega.{arith}
use borrow.Author.Tests.{lt-ltb, le-ltb, ltb-true}
use Rattle.laws.specs.Choice.{when◌then◌else◌, ◌<?◌}
use Rattle.laws.proofs.Cases.{if_true, if_false, if_lt, if_ge, and_i, and_r}
use Rattle.keys.specs.Keys.{taken, flash, choosing, on_right, part_after}
use Rattle.keys.specs.declared.press.Pressed.{Pressed}
use Rattle.field.specs.declared.profile.Profile.{Profile}
use Rattle.field.specs.declared.work.Work.{Work}

-- the cell that is there is chosen, and else it flashes
chosen_if : (w : Work) (r : Pressed) (o : Option ℕ) (P : Type 0) (t : Bool) (x : ℕ) → (P → t ≡ true) → ((P → ⊥) → t ≡ false)
    → MatchOption o (r ≡ flash w) (λ i. r ≡ taken (choosing w i)) → SomeIff o P x → r ≡ (when t then taken (choosing w x) else flash w)
chosen_if w r None P t x in_if out_if f g = f ∙ sym (if_false _ _ (out_if g))
chosen_if w r (Some i) P t x in_if out_if f g = rw (f, g.1) (sym (if_true _ _ (in_if g.0)))

-- on the left
pub chosen_left : (w : Work) (r : Pressed) (o : Option ℕ) → MatchOption o (r ≡ flash w) (λ i. r ≡ taken (choosing w i)) → SomeIff o (1 ≤ w.at) (w.at - 1)
    → r ≡ (when 0 <? w.at then taken (choosing w (w.at - 1)) else flash w)
chosen_left w r o f g = chosen_if w r o (1 ≤ w.at) (0 <? w.at) (w.at - 1) (λ h. lt-ltb 0 w.at h) (λ h. le-ltb 0 w.at (omega (arith, h))) f g

-- on the right
pub chosen_right : (w : Work) (r : Pressed) (o : Option ℕ) (n : ℕ) → MatchOption o (r ≡ flash w) (λ i. r ≡ taken (choosing w i)) → SomeIff o (w.at + 1 < n) (w.at + 1)
    → r ≡ (when (w.at + 1) <? n then taken (choosing w (w.at + 1)) else flash w)
chosen_right w r o n f g =
    chosen_if w r o (w.at + 1 < n) ((w.at + 1) <? n) (w.at + 1) (λ h. lt-ltb (w.at + 1) n h) (λ h. le-ltb (w.at + 1) n (omega (arith, h))) f g

-- on the right, or the last
pub right_or_last : (w : Work) (p : Profile) (o : Option ℕ) → SomeIff o (w.at + 1 < p.cells) (w.at + 1) → unwrap_or o w.at ≡ on_right p w
unfolding on_right
right_or_last w p None g = sym (if_ge (w.at + 1) p.cells _ _ (omega (arith, g)))
right_or_last w p (Some i) g = g.1 ∙ sym (if_lt (w.at + 1) p.cells _ _ g.0)

-- the next part is the next cell, where there are parts
pub part_is_next : (w : Work) (p : Profile) (o : Option ℕ) → p.parts ≡ true → SomeIff o (w.at + 1 < p.cells) (w.at + 1) → SomeIff o (part_after p w ≡ true) (w.at + 1)
unfolding part_after
part_is_next w p None h g = λ e. g (ltb-true (w.at + 1) p.cells (and_r _ _ e))
part_is_next w p (Some i) h g = (and_i h (lt-ltb (w.at + 1) p.cells g.0), g.1)
