-- A system that answers events and keeps bytes, and what the theorem over lists asks of each of its steps: to be one of six cases.
use Prim.Native.Nat.{ℕ, suc}
use mathlib.Core.Path.{◌≡◌}
use mathlib.Core.Logic.{◌≢◌}
use mathlib.Core.Bool.{Bool, true, false}
use mathlib.Core.List.{List, [], ◌∷◌}
use Rattle.session.specs.declared.answer.Answer.{Answer}
use Rattle.session.specs.declared.answer.Answer.TheVariants as answer
use Rattle.journal.specs.Journal.{Answered, answered, on, stored, Rules, counts, ignored}

-- the open visit of a field: its place and working copy. Browsing, password entry and the visit of a trigger are `away`
pub data View (W : Type 0) : Type 0 where
  away : View W
  at : ℕ → W → View W

pub record System (W S : Type 0) : Type 1 where
  pub next : S → ℕ → S
  pub answer : S → ℕ → Answer
  pub view : S → View W
  -- a field's bytes, by its place
  pub read : S → ℕ → List ℕ
  -- the places of the fields
  pub Field : ℕ → Type 0
  -- how many parts of a visit are passed
  pub passed : ℕ → W → ℕ

abbrev pub is_finished : Answer → Bool
is_finished answer.Taken = false
is_finished answer.Flash = false
is_finished (answer.Finished p) = true
is_finished (answer.Fired p) = false
is_finished (answer.Refused n) = false

module _ {W S : Type 0} (Y : System W S) where
  -- the events with their answers, oldest first
  abbrev pub log : S → List ℕ → List Answered
  log s [] = []
  log s (e ∷ es) = answered e (Y.answer s e) ∷ log (Y.next s e) es

  abbrev pub final : S → List ℕ → S
  final s [] = s
  final s (e ∷ es) = final (Y.next s e) es

  -- every field reads the same
  abbrev pub Kept : S → S → Type 0
  Kept s s' = (q : ℕ) → Y.Field q → Y.read s' q ≡ Y.read s q

module _ {W S : Type 0} (R : Rules W) (Y : System W S) where
  -- no visit, or one that has just begun on the field's bytes
  pub data Fresh (s : S) : Type 0 where
    none : Y.view s ≡ away → Fresh s
    begun : (q : ℕ) → Y.Field q → Y.view s ≡ at q (R.start q (Y.read s q)) → Fresh s

  pub data Step (s : S) (e : ℕ) (s' : S) (a : Answer) : Type 0 where
    -- a second or a refused event
    skips : ignored (answered e a) ≡ true → Y.view s' ≡ Y.view s → Kept Y s s' → Step s e s' a
    -- no visit is open afterwards, and none is finished
    quiet : ignored (answered e a) ≡ false → is_finished a ≡ false → Y.view s' ≡ away → Kept Y s s' → Step s e s' a
    -- an ENTER that opens a visit, or none
    opens : ignored (answered e a) ≡ false → is_finished a ≡ false → counts (answered e a) ≡ true → Fresh s' → Kept Y s s' → Step s e s' a
    -- a key within a part of a visit
    goes :
        ignored (answered e a) ≡ false → is_finished a ≡ false → counts (answered e a) ≡ false → (p : ℕ) (w w' : W) → Y.view s ≡ at p w → Y.view s' ≡ at p w' →
        R.press p w e ≡ on w' → Y.passed p w' ≡ Y.passed p w → Kept Y s s' → Step s e s' a
    -- an ENTER that passes a part
    passes :
        ignored (answered e a) ≡ false → is_finished a ≡ false → counts (answered e a) ≡ true → (p : ℕ) (w w' : W) → Y.view s ≡ at p w → Y.view s' ≡ at p w' →
        R.press p w e ≡ on w' → Y.passed p w' ≡ suc (Y.passed p w) → Kept Y s s' → Step s e s' a
    -- the last ENTER
    ends :
        ignored (answered e a) ≡ false → counts (answered e a) ≡ true → (p : ℕ) (w : W) (v : List ℕ) → a ≡ answer.Finished (record { 0 = p }) → Y.view s ≡ at p w →
        R.press p w e ≡ stored v → R.opener p ≡ suc (suc (Y.passed p w)) → Y.read s' p ≡ v →
        ((q : ℕ) → Y.Field q → q ≢ p → Y.read s' q ≡ Y.read s q) → Fresh s' → Step s e s' a

  pub record Lawful : Type 0 where
    pub passed_start : (p : ℕ) (b : List ℕ) → Y.passed p (R.start p b) ≡ 0
    pub step : (s : S) (e : ℕ) → Step s e (Y.next s e) (Y.answer s e)

  -- an opening that succeeded: no visit, and each field at its default
  pub record Opened (s : S) : Type 0 where
    pub closed : Y.view s ≡ away
    pub defaults : (q : ℕ) → Y.Field q → Y.read s q ≡ R.default q
