-- The keys of a password entry in worked cases, one statement over one list, by computation: what is no part of an entry does not count.
use Prim.Native.Nat.{ℕ}
use mathlib.Core.Path.{◌≡◌, refl}
use mathlib.Core.List.{List, [], ◌∷◌, map}
use Rattle.laws.specs.Choice.{when◌then◌else◌}
use Rattle.session.specs.Events.{up, left, right, enter, second}
use Rattle.session.specs.declared.answer.Answer.TheVariants as answer
use Rattle.journal.specs.Journal.{Answered, answered}
use Rattle.protected.specs.Protected.{entry_more, entry_from, entry_keys}

-- events with their answers, and the keys that are told from them
pub record Case : Type 0 where
  pub events : List Answered
  pub keys : List ℕ

abbrev case : List Answered → List ℕ → Case
case xs ks = record { events = xs; keys = ks }

-- a key that was taken, one that flashed, and an event that was refused
abbrev took : ℕ → Answered
took e = answered e answer.Taken

abbrev flashed : ℕ → Answered
flashed e = answered e answer.Flash

abbrev refused : ℕ → Answered
refused e = answered e (answer.Refused 13)

unfoldable pub cases : List Case
cases =
    -- RIGHT 1 2; keys that flash, seconds and refused events between them are left out
    case (took right ∷ took 1 ∷ took 2 ∷ []) (right ∷ 1 ∷ 2 ∷ [])
    ∷ case (took right ∷ flashed up ∷ took 1 ∷ took second ∷ flashed right ∷ refused 17 ∷ took 2 ∷ []) (right ∷ 1 ∷ 2 ∷ [])
    -- a RIGHT begins anew
    ∷ case (took right ∷ took 1 ∷ took right ∷ took 2 ∷ []) (right ∷ 2 ∷ [])
    -- LEFT, and any other key that is taken, ends the entry
    ∷ case (took right ∷ took 1 ∷ took 2 ∷ took left ∷ []) []
    ∷ case (took right ∷ took 1 ∷ took left ∷ took 2 ∷ []) []
    ∷ case (took right ∷ took enter ∷ took 1 ∷ took 2 ∷ []) []
    -- a digit that flashes ends it
    ∷ case (took right ∷ took 3 ∷ flashed 4 ∷ []) []
    ∷ case (took right ∷ flashed 1 ∷ took 2 ∷ []) []
    -- digits without a RIGHT, or after one that flashed, are of no entry
    ∷ case (took 3 ∷ took 4 ∷ []) []
    ∷ case (flashed right ∷ took 3 ∷ took 4 ∷ []) []
    ∷ []

-- every case comes out as listed
pub keys_told : map (λ (c : Case). entry_keys c.events) cases ≡ map (λ (c : Case). c.keys) cases
unfolding cases entry_more entry_from when◌then◌else◌
keys_told = refl
