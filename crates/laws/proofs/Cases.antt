-- Choices and conjunctions: case splits that follow a definition by tests, and rules that settle a choice by the facts of a branch.
use Prim.Native.Nat.{ℕ, ◌≤◌, ◌<◌, min}
use mathlib.Core.Path.{◌≡◌, refl, sym, ◌∙◌}
use mathlib.Core.Bool.{Bool, true, false, false≢true}
use native.Mathlib.Omega.{arith}
use borrow.Author.Tests.{eq-eqb, ne_eqb, lt-ltb, le-ltb, le-leb, lt-leb, ltb-true, ltb-false}
use Rattle.std.specs.Int.{from_bool}
use Rattle.laws.specs.Choice.{when◌then◌else◌, ◌and◌, ◌=?◌, ◌<?◌, ◌≤?◌}

-- a property of a choice: of the first where the test passes, of the second where it fails
pub if_ind : {A : Type 0} (P : A → Type 0) (t : Bool) {x y : A} → (t ≡ true → P x) → (t ≡ false → P y) → P (when t then x else y)
unfolding when◌then◌else◌
if_ind P true f g = f refl
if_ind P false f g = g refl

-- a test kept with its equation
pub by_test : {A : Type 0} (t : Bool) → (t ≡ true → A) → (t ≡ false → A) → A
by_test true f g = f refl
by_test false f g = g refl

-- what a callee ensures of its answer, and the branch on that answer
pub via : {r t u : Bool} → r ≡ t → r ≡ u → t ≡ u
via p q = sym p ∙ q

pub lt_via : {a r b : ℕ} → r ≡ b → a < r → a < b
lt_via e h = omega arith

pub le_via : {a r b : ℕ} → r ≡ b → r ≤ a → b ≤ a
le_via e h = omega arith

-- a choice whose test is settled
module _ {A : Type 0} where
  pub if_true : {t : Bool} (x y : A) → t ≡ true → (when t then x else y) ≡ x
  unfolding when◌then◌else◌
  if_true x y h = rw h

  pub if_false : {t : Bool} (x y : A) → t ≡ false → (when t then x else y) ≡ y
  unfolding when◌then◌else◌
  if_false x y h = rw h

  pub if_eq : (a b : ℕ) (x y : A) → a ≡ b → (when a =? b then x else y) ≡ x
  if_eq a b x y h = if_true x y (eq-eqb a b h)

  pub if_ne : (a b : ℕ) (x y : A) → (a ≡ b → ⊥) → (when a =? b then x else y) ≡ y
  if_ne a b x y h = if_false x y (ne_eqb a b h)

  pub if_lt : (a b : ℕ) (x y : A) → a < b → (when a <? b then x else y) ≡ x
  if_lt a b x y h = if_true x y (lt-ltb a b h)

  pub if_ge : (a b : ℕ) (x y : A) → b ≤ a → (when a <? b then x else y) ≡ y
  if_ge a b x y h = if_false x y (le-ltb a b h)

  pub if_le : (a b : ℕ) (x y : A) → a ≤ b → (when a ≤? b then x else y) ≡ x
  if_le a b x y h = if_true x y (le-leb a b h)

  pub if_gt : (a b : ℕ) (x y : A) → b < a → (when a ≤? b then x else y) ≡ y
  if_gt a b x y h = if_false x y (lt-leb a b h)

-- a conjunction, and its parts
pub and_i : {a b : Bool} → a ≡ true → b ≡ true → a and b ≡ true
unfolding ◌and◌
and_i p q = simp (p, q)

pub and_l : (a b : Bool) → a and b ≡ true → a ≡ true
unfolding ◌and◌
and_l true b e = refl
and_l false b e = e

pub and_r : (a b : Bool) → a and b ≡ true → b ≡ true
unfolding ◌and◌
and_r true b e = e
and_r false b e = absurd (false≢true e)

-- a conjunction whose first part is settled
pub and_true : {a : Bool} (b : Bool) → a ≡ true → a and b ≡ b
unfolding ◌and◌
and_true b h = rw h

pub and_false : {a : Bool} (b : Bool) → a ≡ false → a and b ≡ false
unfolding ◌and◌
and_false b h = rw h

-- a conjunction whose second part holds
pub and_second : (a : Bool) {b : Bool} → b ≡ true → a and b ≡ a
unfolding ◌and◌
and_second true e = e
and_second false e = refl

-- turn the facts of a branch into the tests of a definition
pub ruleset tests = (lt-ltb, le-ltb, le-leb, lt-leb, eq-eqb, ne_eqb)

-- settle the choices and conjunctions of a definition by the facts of a branch and by what callees ensure
pub ruleset choices = (if_eq, if_ne, if_lt, if_ge, if_le, if_gt, if_true, if_false, and_true, and_false, tests, via, lt_via, le_via)

-- a number chosen by a test is between what bounds both
pub if_max : (t : Bool) {x y m : ℕ} → x ≤ m → y ≤ m → (when t then x else y) ≤ m
unfolding when◌then◌else◌
if_max true p q = p
if_max false p q = q

pub if_min : (t : Bool) {x y m : ℕ} → m ≤ x → m ≤ y → m ≤ (when t then x else y)
unfolding when◌then◌else◌
if_min true p q = p
if_min false p q = q

-- the least of two numbers is a number chosen by a test
pub min_when : (n m : ℕ) → min n m ≡ (when n <? m then n else m)
min_when n m =
    by_test (n <? m) (λ e. let h = ltb-true n m e in rw (if_lt n m n m h) (omega arith)) (λ e. let h = ltb-false n m e in rw (if_ge n m n m h) (omega arith))

-- a test as a number
pub from_bool_when : (t : Bool) → from_bool t ≡ (when t then 1 else 0)
unfolding when◌then◌else◌
from_bool_when true = refl
from_bool_when false = refl
