-- The state of a walk that has refused nothing, and two steps in turn.
use Prim.Native.Nat.{ℕ, ◌+◌}
use mathlib.Core.Path.{◌≡◌, refl, sym, ◌∙◌}
use mathlib.Core.Bool.{Bool, true, false, true≢false}
use mathlib.Core.List.{List, ◌++◌, map, map-append, append_assoc}
use native.Mathlib.Omega.{arith}
use native.Mathlib.Nat.{add_assoc}
use lib.ListN.{length}
use borrow.Author.Tests.{ne_eqb}
use Rattle.std.specs.Prelude.{Option, Some, None}
use Rattle.cmf.specs.Refusals.{number, refusal_number}
use Rattle.cmf.proofs.Numbers.{number_positive}
use Rattle.cmf.specs.declared.refusal.Refusal.{Refusal}
use Rattle.laws.specs.Choice.{when◌then◌else◌, ◌=?◌}
use Rattle.laws.proofs.Cases.{if_true}
use Rattle.field.specs.declared.record.Field.{Field}
use Rattle.acceptance.specs.declared.index.Entry.{Entry}
use Rattle.acceptance.specs.Check.{State, state, with, fine, stopped, refused, and_then, entry_of}

-- what cannot be
pub clash : {A : Type 0} {b : Bool} → b ≡ true → b ≡ false → A
clash p q = absurd (true≢false (sym p ∙ q))

-- the walk has come to `at`, with so many lines and these fields
abbrev pub came_to : ℕ → ℕ → List Entry → State
came_to at lines es = state (record { refusal = None; at = at; lines = lines; fields = length es }) es

-- the entries es with those of the fields fs after them
abbrev pub put : List Entry → List Field → List Entry
put es fs = es ++ map entry_of fs

-- fields put after fields
pub put_put : (es : List Entry) (fs gs : List Field) → put (put es fs) gs ≡ put es (fs ++ gs)
put_put es fs gs = rw (append_assoc es (map entry_of fs) (map entry_of gs), map-append entry_of fs gs)

-- one stretch of the walk and another are a longer one
pub stood_put :
    (at lines k j : ℕ) (es : List Entry) (fs gs : List Field) →
    came_to at (lines + k + j) (put (put es fs) gs) ≡ came_to at (lines + (k + j)) (put es (fs ++ gs))
stood_put at lines k j es fs gs = rw (add_assoc lines k j, put_put es fs gs)

-- a walk that has refused nothing is fine, and one that has refused is not
pub stood_fine : (at lines : ℕ) (es : List Entry) → fine (came_to at lines es) ≡ true
unfolding fine
stood_fine at lines es = refl

pub code_refused : {A : Type 0} (s : State) (r : Option Refusal) → refusal_number r =? 0 ≡ false → fine (with s (stopped s.progress r)) ≡ true → A
unfolding fine
code_refused s r e h = clash h e

pub is_refused_lem : {A : Type 0} (s : State) (r : Refusal) → fine (with s (refused s.progress r)) ≡ true → A
is_refused_lem s r h = code_refused s (Some r) (ne_eqb (number r) 0 (λ e. omega (arith, number_positive r))) h

-- two steps in turn that end without a refusal
pub record Then (x y : State) : Type 0 where
  pub before : fine x ≡ true
  pub after : fine y ≡ true
  pub is : and_then x y ≡ y

then_by : (b : Bool) (x y : State) → fine x ≡ b → fine (when b then y else x) ≡ true → (b ≡ true) × (fine y ≡ true)
unfolding when◌then◌else◌
then_by true x y e h = (refl, h)
then_by false x y e h = clash h e

pub then_fine : (x y : State) → fine (and_then x y) ≡ true → Then x y
unfolding and_then
then_fine x y h = let t = then_by (fine x) x y refl h in record { before = t.0; after = t.1; is = if_true y x t.0 }

-- a step that is known, and then another
pub then_is : (f : State → State) (x : State) (at lines : ℕ) (es : List Entry) → x ≡ came_to at lines es → and_then x (f x) ≡ f (came_to at lines es)
unfolding and_then
then_is f x at lines es e = rw e (if_true _ _ (stood_fine at lines es))
