-- The one choice that every definition uses, and the tests that it is made by.
use Rattle.std.specs.Prelude.{ℕ, Bool, true, false, eqb, ltb, leb}

infixr 10 when◌then◌else◌
infixr 25 ◌and◌
infix 30 ◌=?◌
infix 30 ◌<?◌
infix 30 ◌≤?◌
-- shut, so that laws can be found by the shape of a choice: `unfolding when◌then◌else◌` opens it
unfoldable pub when◌then◌else◌ : {A : Type 0} → Bool → A → A → A
when true then a else b = a
when false then a else b = b

unfoldable pub ◌and◌ : Bool → Bool → Bool
true and b = b
false and b = false

abbrev pub ◌=?◌ : ℕ → ℕ → Bool
a =? b = eqb a b

abbrev pub ◌<?◌ : ℕ → ℕ → Bool
a <? b = ltb a b

abbrev pub ◌≤?◌ : ℕ → ℕ → Bool
a ≤? b = leb a b
