-- Which of several refusals in order is given.
use Prim.Native.Nat.{ℕ}
use mathlib.Core.Path.{◌≡◌, refl, sym, ◌∙◌}
use mathlib.Core.Bool.{Bool, true, false}
use mathlib.Core.List.{List}
use native.Mathlib.Omega.{arith}
use borrow.Author.Tests.{eqb-true, eqb-false}
use Rattle.laws.specs.Choice.{when◌then◌else◌, ◌=?◌}
use Rattle.laws.proofs.Cases.{tests, by_test, if_true, if_false, if_eq, if_ne, if_ind}
use Rattle.acceptance.specs.Check.{refusal_of}
use Rattle.session.specs.Fits.{session_fits}
use Rattle.session.specs.declared.session.Session.{Session}
use Rattle.cmf.specs.Refusals.{number}
use Rattle.cmf.specs.declared.refusal.Refusal.{Refusal}
use Rattle.cmf.proofs.Numbers.{number_positive}
use Rattle.handset.specs.Refusals.{◌before◌, ◌unless◌, session_refusal}

pub first_given : (a b : ℕ) → (a ≡ 0 → ⊥) → a before b ≡ a
unfolding ◌before◌
first_given a b h = if_ne a 0 _ _ h

pub next_given : (a b : ℕ) → a ≡ 0 → a before b ≡ b
unfolding ◌before◌
next_given a b h = if_eq a 0 _ _ h

pub holding : (k : ℕ) (t : Bool) → t ≡ true → k unless t ≡ 0
unfolding ◌unless◌
holding k t h = if_true _ _ h

pub failing : (k : ℕ) (t : Bool) → t ≡ false → k unless t ≡ k
unfolding ◌unless◌
failing k t h = if_false _ _ h

-- what a test by itself answers, by the facts of its branch
pub ruleset tested = (holding, failing, tests)

-- one test more after those that give r, which a call knows as k: what the call answers where it passes
pub not_refused : (k r j : ℕ) (t : Bool) → k ≡ r → k ≡ 0 → t ≡ true → 0 ≡ r before (j unless t)
not_refused k r j t e h f = sym (rw (← e) (next_given k _ h ∙ holding j t f))

-- a test first, as a choice
pub tested_before : (k : ℕ) (t : Bool) (b : ℕ) → (k ≡ 0 → ⊥) → (k unless t) before b ≡ (when t then b else k)
unfolding ◌before◌ ◌unless◌ when◌then◌else◌
tested_before k true b h = refl
tested_before k false b h = if_ne k 0 b k h

-- three in a row, in either grouping
pub before_before : (a b c : ℕ) → (a before b) before c ≡ a before (b before c)
before_before a b c =
    by_test (a =? 0)
    (λ e. let z = eqb-true a 0 e in rw (next_given a b z, next_given a (b before c) z))
    (λ e. let z = eqb-false a 0 e in rw (first_given a b z, first_given a (b before c) z) (first_given a c z))

-- no refusal of two is none of each
pub none_before : (a b : ℕ) → a before b ≡ 0 → (a ≡ 0) × (b ≡ 0)
unfolding ◌before◌
none_before a b =
    if_ind (λ (k : ℕ). k ≡ 0 → (a ≡ 0) × (b ≡ 0)) (a =? 0) (λ e z. (eqb-true a 0 e, z)) (λ e z. absurd (eqb-false a 0 e z))

pub none_unless : (k : ℕ) (t : Bool) → (k ≡ 0 → ⊥) → k unless t ≡ 0 → t ≡ true
unfolding ◌unless◌ when◌then◌else◌
none_unless k true h z = refl
none_unless k false h z = absurd (h z)

-- the refusal of image and sheet, then the session's
pub session_from_lem : (im : List ℕ) (extent : ℕ) (s : Session) (k u : ℕ) → k ≡ refusal_of im extent → u ≡ (k before (12 unless session_fits im s))
    → u ≡ session_refusal im extent s
unfolding session_refusal
session_from_lem im extent s k u p q = rw p at q

-- what has been tested where image, sheet and session are not refused
pub record Granted (im : List ℕ) (extent : ℕ) (s : Session) : Type 0 where
  pub accepted : refusal_of im extent ≡ 0
  pub fits : session_fits im s ≡ true

pub session_granted : (im : List ℕ) (extent : ℕ) (s : Session) → session_refusal im extent s ≡ 0 → Granted im extent s
unfolding session_refusal
session_granted im extent s h =
    let a = none_before _ _ h in
    record { accepted = a.0; fits = none_unless 12 (session_fits im s) (λ z. omega arith) a.1 }

-- the first refusal is that of both, and no refusal leaves the second
pub stops_at : (a b : ℕ) (f : Refusal) → number f ≡ a → number f ≡ a before b
stops_at a b f h = h ∙ sym (first_given a b (λ z. omega (arith, number_positive f, h, z)))

pub goes_on : (a b : ℕ) {k : ℕ} → 0 ≡ a → k ≡ b → k ≡ a before b
goes_on a b h e = e ∙ sym (next_given a b (sym h))
