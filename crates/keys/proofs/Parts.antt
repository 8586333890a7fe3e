-- Parts of a time or date: what the tables say of the kinds that have them.
use Prim.Native.Nat.{ℕ, ◌+◌, ◌<◌}
use mathlib.Core.Path.{◌≡◌, refl, sym, ◌∙◌}
use mathlib.Core.Bool.{Bool, true, false}
use mathlib.Core.List.{List}
use borrow.Author.Tests.{ltb-true}
use Rattle.laws.specs.Choice.{when◌then◌else◌}
use Rattle.laws.proofs.Cases.{if_ind, and_r}
use Rattle.field.specs.Profiles.{profile_of, cell_of}
use Rattle.keys.specs.Keys.{part_after}
use Rattle.field.specs.declared.kind.Kind.{Kind}
use Rattle.field.specs.declared.kind.Kind.TheVariants.{Integer, Counter, Time, Date, Switch, Option, Trigger}
use Rattle.field.specs.declared.profile.Cell.{Cell}
use Rattle.field.specs.declared.profile.Profile.{Profile}
use Rattle.field.specs.declared.work.Work.{Work}

-- a part after the chosen one is a cell of the field
pub part_next : (p : Profile) (w : Work) → part_after p w ≡ true → w.at + 1 < p.cells
unfolding part_after
part_next p w e = ltb-true (w.at + 1) p.cells (and_r _ _ e)

-- a kind whose cells LEFT and RIGHT choose has no parts
pub moves_apart : (k : Kind) → (profile_of k).moves ≡ true → (profile_of k).parts ≡ false
unfolding profile_of
moves_apart (Integer f) e = refl
moves_apart (Counter s) e = refl
moves_apart (Time long) e = sym e
moves_apart (Date long) e = sym e
moves_apart (Switch n) e = refl
moves_apart (Option n w) e = refl
moves_apart Trigger e = refl

-- a choice of cells that digit keys do not set
if_typed : (t : Bool) (a b : Cell) → a.typed ≡ false → b.typed ≡ false → (when t then a else b).typed ≡ false
if_typed t a b p q = if_ind (λ (c : Cell). c.typed ≡ false) t (λ e. p) (λ e. q)

-- a kind with a cell that digit keys set has no parts, and is no trigger
pub typed_apart : (k : Kind) (cs : List ℕ) (i : ℕ) → (cell_of k cs i).typed ≡ true → ((profile_of k).fires ≡ false) × ((profile_of k).parts ≡ false)
unfolding profile_of cell_of
typed_apart (Integer f) cs i e = (refl, refl)
typed_apart (Counter s) cs i e = (refl, refl)
typed_apart (Time long) cs i e = (refl, sym e ∙ if_typed _ _ _ refl refl)
typed_apart (Date long) cs i e = (refl, sym e ∙ if_typed _ _ _ refl (if_typed _ _ _ refl refl))
typed_apart (Switch n) cs i e = (refl, refl)
typed_apart (Option n w) cs i e = (refl, refl)
typed_apart Trigger cs i e = (sym e, refl)
