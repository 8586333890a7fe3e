-- What the outcome of a key says of the key and of the working copy. A caller needs no more of a key than its outcome and these facts.
use Prim.Native.Nat.{ℕ, suc, ◌+◌, ◌≤◌, ◌<◌}
use mathlib.Core.Path.{◌≡◌, refl}
use mathlib.Core.Bool.{Bool, true, false}
use native.Mathlib.Omega.{arith}
use native.Mathlib.Numerals.{add-one}
use borrow.Author.Tests.{ltb-false}
use Rattle.laws.specs.Choice.{when◌then◌else◌, ◌and◌, ◌<?◌}
use Rattle.laws.proofs.Cases.{if_ind, if_true, and_l}
use Rattle.field.specs.Profiles.{profile_of, cell_of}
use Rattle.field.specs.Cells.{stores, work_of, started}
use Rattle.keys.specs.Keys.{taken, flash, next_part, done, fired, passed_by, with_chosen, choosing, raised, lowered, up_key, down_key, left_key, right_key, digit_key, part_after, capped, enter_key}
use Rattle.field.specs.declared.kind.Kind.{Kind}
use Rattle.field.specs.declared.profile.Profile.{Profile}
use Rattle.field.specs.declared.profile.Cell.{Cell}
use Rattle.field.specs.declared.work.Work.{Work}
use Rattle.field.specs.declared.value.Value.{Value}
use Rattle.keys.specs.declared.press.Pressed.{Pressed}
use Rattle.keys.specs.declared.press.Outcome.{Outcome}
use Rattle.keys.specs.declared.press.Outcome.TheVariants.{Taken, Flash, NextPart, Done, Fired, Passed}
use Rattle.field.proofs.Legal.{Legal}
use Rattle.keys.proofs.Parts.{moves_apart, typed_apart}

-- parts that ENTER has passed: where it goes from part to part, the number of the chosen one
unfoldable pub passed_in : Profile → Work → ℕ
passed_in p w = when p.parts then w.at else 0

-- parts of a visit
unfoldable pub parts_in : Profile → ℕ
parts_in p = when p.parts then p.cells else 1

-- whether the key is ENTER, the kind, the working copy before and after, the outcome
abbrev pub Facts : Bool → Kind → Work → Work → Outcome → Type 0
Facts enter k w v Taken = (enter ≡ false) × ((profile_of k).fires ≡ false) × (passed_in (profile_of k) v ≡ passed_in (profile_of k) w)
Facts enter k w v Flash = v ≡ w
Facts enter k w v NextPart = (enter ≡ true) × ((profile_of k).fires ≡ false) × (passed_in (profile_of k) v ≡ suc (passed_in (profile_of k) w))
Facts enter k w v Done =
    (enter ≡ true) × ((profile_of k).fires ≡ false) × (v ≡ w) × (parts_in (profile_of k) ≤ suc (passed_in (profile_of k) w)) × (stores k w.cells ≡ true)
Facts enter k w v Fired = (enter ≡ false) × ((profile_of k).fires ≡ true) × (v ≡ w)
Facts enter k w v Passed = (enter ≡ true) × ((profile_of k).fires ≡ true) × (v ≡ w)

-- a result whose outcome says what it should
pub record Says (enter : Bool) (k : Kind) (w : Work) (r : Pressed) : Type 0 where
  pub facts : Facts enter k w r.work r.outcome

-- a choice of results
by_if : {enter : Bool} {k : Kind} {w : Work} (t : Bool) {x y : Pressed}
    → (t ≡ true → Says enter k w x) → (t ≡ false → Says enter k w y) → Says enter k w (when t then x else y)
by_if {enter} {k} {w} t f g = if_ind (λ (r : Pressed). Says enter k w r) t f g

-- ---- what each outcome says where it is given

module _ {k : Kind} {w : Work} where
  -- nothing changes
  says_flash : {enter : Bool} → Says enter k w (flash w)
  says_flash = record { facts = refl }

  -- the chosen cell is set
  says_set : (x : ℕ) → (profile_of k).fires ≡ false → Says false k w (taken (with_chosen w x))
  unfolding passed_in
  says_set x f = record { facts = (refl, f, refl) }

  -- where there are no parts, none is passed
  says_moved : {v : Work} → (profile_of k).fires ≡ false → (profile_of k).parts ≡ false → Says false k w (taken v)
  unfolding passed_in when◌then◌else◌
  says_moved f m = record { facts = (refl, f, simp m) }

  -- a cursor key on a trigger
  says_fired : (profile_of k).fires ≡ true → Says false k w (fired w)
  says_fired f = record { facts = (refl, f, refl) }

  -- ENTER on a trigger
  says_passed : (profile_of k).fires ≡ true → Says true k w (passed_by w)
  says_passed f = record { facts = (refl, f, refl) }

  -- ENTER before the last part
  says_next : (profile_of k).fires ≡ false → part_after (profile_of k) w ≡ true → Says true k w (next_part (capped k (choosing w (w.at + 1))))
  unfolding passed_in part_after capped when◌then◌else◌
  says_next f m = let p = and_l _ _ m in record { facts = (refl, f, simp (p, add-one)) }

  -- the last ENTER
  says_done : (profile_of k).fires ≡ false → part_after (profile_of k) w ≡ false → stores k w.cells ≡ true → Says true k w (done w)
  unfolding passed_in parts_in part_after ◌and◌ when◌then◌else◌
  says_done f m e = record { facts = (refl, f, refl, last (profile_of k).parts m, e) }
    where
      last : (t : Bool) → t and ((w.at + 1) <? (profile_of k).cells) ≡ false → (when t then (profile_of k).cells else 1) ≤ suc (when t then w.at else 0)
      last true q = omega (arith, ltb-false (w.at + 1) (profile_of k).cells q)
      last false q = omega arith

-- ---- the keys

module _ (k : Kind) (w : Work) where
  -- a step up
  raised_says : (c : Cell) → (profile_of k).fires ≡ false → Says false k w (raised c w)
  unfolding raised
  raised_says c f = search (by_if, says_flash, says_set) depth 8

  -- a step down
  lowered_says : (c : Cell) → (profile_of k).fires ≡ false → Says false k w (lowered c w)
  unfolding lowered
  lowered_says c f = search (by_if, says_flash, says_set) depth 8

  -- UP, by any row
  pub up_says : (c : Cell) → Says false k w (up_key (profile_of k) c w)
  unfolding up_key
  up_says c = search (by_if, says_flash, says_fired, raised_says) depth 8

  -- DOWN
  pub down_says : (c : Cell) → Says false k w (down_key (profile_of k) c w)
  unfolding down_key
  down_says c = search (by_if, says_flash, says_fired, lowered_says) depth 8

  -- LEFT
  pub left_says : (c : Cell) → Says false k w (left_key (profile_of k) c w)
  unfolding left_key
  left_says c = search (by_if, says_flash, says_fired, says_moved, moves_apart, lowered_says) depth 10

  -- RIGHT
  pub right_says : (c : Cell) → Says false k w (right_key (profile_of k) c w)
  unfolding right_key
  right_says c = search (by_if, says_flash, says_fired, says_moved, moves_apart, raised_says) depth 10

  -- a digit key, by the table's row
  pub digit_says : (d : ℕ) → Says false k w (digit_key (profile_of k) (cell_of k w.cells w.at) w d)
  unfolding digit_key
  digit_says d = by_if _ (λ t. let a = typed_apart k w.cells w.at t in says_moved a.0 a.1) (λ t. says_flash)

  -- ENTER
  pub enter_says : Says true k w (enter_key k w)
  unfolding enter_key
  enter_says = search (by_if, says_flash, says_passed, says_next, says_done) depth 10

-- ---- parts of a legal visit

-- a visit starts with no part passed
pub passed_start : (k : Kind) (v d : Value) → passed_in (profile_of k) (started k v d) ≡ 0
unfolding passed_in started work_of
passed_start k v d = if_ind (λ (x : ℕ). x ≡ 0) (profile_of k).parts (λ e. refl) (λ e. refl)

-- a legal working copy has not passed all parts
pub passed_below : (k : Kind) (w : Work) → Legal k w → passed_in (profile_of k) w < parts_in (profile_of k)
unfolding passed_in parts_in when◌then◌else◌
passed_below k w h = go (profile_of k).parts
  where
    go : (t : Bool) → (when t then w.at else 0) < (when t then (profile_of k).cells else 1)
    go true = h.at
    go false = omega arith

-- and one that has passed all but one has its last part chosen
pub passed_last : (k : Kind) (w : Work) → Legal k w → parts_in (profile_of k) ≤ suc (passed_in (profile_of k) w) → (profile_of k).parts ≡ true
    → w.at + 1 ≡ (profile_of k).cells
unfolding passed_in parts_in
passed_last k w h l p = omega (arith, h.at, if_true (profile_of k).cells 1 p, if_true w.at 0 p)
