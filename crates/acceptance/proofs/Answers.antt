-- The check's answer at each structure by itself is the lowest number that applies; and the walk's steps in turn, the first refusal of which decides.
use Prim.Native.Nat.{ℕ, zero, suc, ◌<◌}
use mathlib.Core.Path.{◌≡◌}
use mathlib.Core.Bool.{true}
use mathlib.Core.List.{List, map}
use native.Mathlib.Omega.{arith}
use borrow.Author.Tests.{eqb-true}
use Rattle.cmf.specs.Refusals.{refusal_number}
use Rattle.laws.specs.Choice.{◌=?◌}
use Rattle.laws.proofs.Cases.{if_ind}
use Rattle.field.specs.declared.record.Field.{Field}
use Rattle.cmf.specs.Limits.{most_fields}
use Rattle.acceptance.specs.declared.index.Entry.{Entry}
use Rattle.acceptance.specs.Check.{State, fine, and_then, entry_of, on_head, on_component}
use Rattle.acceptance.specs.Faults.{Structure, FirstOfParity, Applies, InComponents, InLine, InLines, InTableOver, TitleOnly, InTable}
use Rattle.acceptance.proofs.CameTo.{came_to}
use Rattle.acceptance.proofs.Judging.{Judged, title_answer, title_judged, head_judged}
use Rattle.acceptance.proofs.PartJudging.{part_judged}

-- ---- one structure

-- the refusal with which the check answers at a structure that has so many lines and these fields before it
abbrev pub answer : List ℕ → ℕ → ℕ → Structure → ℕ → List Entry → ℕ
answer im extent most (Structure.title left t) lines es = title_answer im left t
answer im extent most (Structure.head n before at p) lines es = refusal_number (on_head im extent most n before p (came_to at lines es)).progress.refusal
answer im extent most (Structure.component at p) lines es = refusal_number (on_component im extent most p (came_to at lines es)).progress.refusal

-- a component that the walk comes to is at the first even offset
pub data Sits : Structure → Type 0 where
  title : {left t : ℕ} → Sits (Structure.title left t)
  head : {n before at p : ℕ} → Sits (Structure.head n before at p)
  component : {at p : ℕ} → FirstOfParity 0 at p → Sits (Structure.component at p)

module _ (im : List ℕ) where
  sits_components : {at : ℕ} {x : Structure} {fs : List Field} → InComponents im at x fs → Sits x
  sits_components (InComponents.here p o) = Sits.component o
  sits_components (InComponents.later p mid a c l r) = sits_components r

  module _ (Below : ℕ → Structure → List Field → ℕ → Type 0) (below : (t : ℕ) (x : Structure) (fs : List Field) (k : ℕ) → Below t x fs k → Sits x) where
    sits_line : {n before at p k : ℕ} {x : Structure} {fs : List Field} → InLine im Below n before at p x fs k → Sits x
    sits_line InLine.first = Sits.head
    sits_line (InLine.components mid few a h r) = sits_components r
    sits_line (InLine.submenu mid end few a h c b r) = below _ _ _ _ r

    sits_lines :
        {Sub : ℕ → List Field → ℕ → Type 0} {n before at p k : ℕ} {x : Structure} {fs : List Field} → InLines im Sub Below n before at p x fs k → Sits x
    sits_lines (InLines.this r) = sits_line r
    sits_lines (InLines.later end few a l b r) = sits_lines r

    sits_over :
        {Sub : ℕ → List Field → ℕ → Type 0} {left t k : ℕ} {x : Structure} {fs : List Field} → InTableOver im Sub Below left t x fs k → Sits x
    sits_over InTableOver.first = Sits.title
    sits_over (InTableOver.lines end p t o r) = sits_lines r

  sits_only : {t k : ℕ} {x : Structure} {fs : List Field} → TitleOnly t x fs k → Sits x
  sits_only TitleOnly.first = Sits.title

  pub sits : (left t : ℕ) (x : Structure) (fs : List Field) (k : ℕ) → InTable im left t x fs k → Sits x
  unfolding InTable
  sits zero t x fs k = λ r. sits_only r
  sits (suc left) t x fs k = λ r. sits_over (InTable im left) (sits left) r

-- the answer at a structure is the lowest number that applies to it
pub judged :
    (im : List ℕ) (extent lines : ℕ) (fs : List Field) (x : Structure) → Sits x → Judged (Applies im extent fs lines x) (answer im extent most_fields x lines (map entry_of fs))
unfolding Applies
judged im extent lines fs (Structure.title left t) s = title_judged im left t
judged im extent lines fs (Structure.head n before at p) s = head_judged im lines n before at p extent most_fields (map entry_of fs)
judged im extent lines fs (Structure.component at p) (Sits.component o) = part_judged im extent fs at p lines o

-- ---- two steps in turn

-- a refusal of the first is that of both
pub stops : (x y : State) (r : ℕ) → 0 < r → refusal_number x.progress.refusal ≡ r → refusal_number (and_then x y).progress.refusal ≡ r
unfolding and_then fine
stops x y r h e =
    if_ind (λ (s : State). refusal_number s.progress.refusal ≡ r) (refusal_number x.progress.refusal =? 0) (λ q. absurd (omega (arith, eqb-true (refusal_number x.progress.refusal) 0 q))) (λ _. e)

-- a refusal of both is that of the first, or the first is fine and it is that of the second
pub data Turn (x y : State) (r : ℕ) : Type 0 where
  stopped : refusal_number x.progress.refusal ≡ r → Turn x y r
  went : fine x ≡ true → refusal_number y.progress.refusal ≡ r → Turn x y r

pub turn : (x y : State) (r : ℕ) → refusal_number (and_then x y).progress.refusal ≡ r → Turn x y r
unfolding and_then fine
turn x y r =
    if_ind (λ (s : State). refusal_number s.progress.refusal ≡ r → Turn x y r) (refusal_number x.progress.refusal =? 0) (λ q e. Turn.went q e) (λ _ e. Turn.stopped e)

-- what is fine has no refusal
pub fine_none : {A : Type 0} (x : State) (r : ℕ) → 0 < r → fine x ≡ true → refusal_number x.progress.refusal ≡ r → A
unfolding fine
fine_none x r h f e = absurd (omega (arith, eqb-true (refusal_number x.progress.refusal) 0 f))
