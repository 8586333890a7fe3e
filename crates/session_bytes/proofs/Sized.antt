-- Every session that the code holds is sized: what owning one tells of it, field by field.
use Prim.Native.Nat.{ℕ, zero, suc, ◌^◌, ◌<◌}
use mathlib.Core.Path.{◌≡◌, refl}
use mathlib.Core.List.{List, [], ◌∷◌}
use mir.Val.{Val}
use mir.Syntax.{Width, w8, w32}
use mir.Val.{bits}
use denote.Laws.{Is}
use denote.Shadow.{shadow}
use denote.Plain.{UInt}
use denote.Array.{each}
use denote.Struct.Declared.{row}
use native.Mathlib.Omega.{arith}
use lib.ListN.{length, get_or}
use Rattle.session.specs.declared.session.Level.{Level}
use Rattle.session.specs.declared.session.Mode.{Mode}
use Rattle.session.specs.declared.session.Mode.TheVariants as mode
use Rattle.session.specs.declared.session.Session.{Session}
use Rattle.session.proofs.Sized.{above_length}
use Rattle.session.specs.contracts.session.Session.{the_type}
use Rattle.session.specs.contracts.session.Level as level
use Rattle.session.specs.contracts.session.Mode as modes
use Rattle.session_bytes.specs.Sized.{Places, Numbers, ModeSized, Sized}

pub cells_length : (s : Session) (vs : List Val) → Is (row the_type) s vs → length s.work.cells ≡ 32
cells_length s vs g = g.1.1.1.1.1.0.1.1.0.1.0.1

pub typed_length : (s : Session) (vs : List Val) → Is (row the_type) s vs → length s.typed ≡ 8
typed_length s vs g = g.1.1.1.1.1.1.0.1.0.1

-- each number of an array fits its width
numbers_fit : (w : Width) (n : ℕ) → 2 ^ bits w ≡ 256 ^ n → (xs : List ℕ) (us : List Val)
    → shadow (each ℕ (UInt w).own_val xs us) → Numbers n xs
numbers_fit w n e [] us g = Numbers.none
numbers_fit w n e (x ∷ xs) [] g = absurd g
numbers_fit w n e (x ∷ xs) (u ∷ us) g = Numbers.more (rw e at g.0.1) (numbers_fit w n e xs us g.1)

-- an element of an array of bytes, 0 past the end
pub byte_fits : (xs : List ℕ) (us : List Val) → shadow (each ℕ (UInt w8).own_val xs us) → (i : ℕ) → get_or xs i 0 < 256
byte_fits [] us g i = omega arith
byte_fits (x ∷ xs) [] g i = absurd g
byte_fits (x ∷ xs) (u ∷ us) g zero = g.0.1
byte_fits (x ∷ xs) (u ∷ us) g (suc i) = byte_fits xs us g.1 i

-- ---- a session

cells_fit : (s : Session) (vs : List Val) → Is (row the_type) s vs → Numbers 4 s.work.cells
cells_fit s vs g = numbers_fit w32 4 refl s.work.cells _ g.1.1.1.1.1.0.1.1.0.1.1

typed_fit : (s : Session) (vs : List Val) → Is (row the_type) s vs → Numbers 1 s.typed
typed_fit s vs g = numbers_fit w8 1 refl s.typed _ g.1.1.1.1.1.1.0.1.1

-- each level's place is 64 bits
levels_fit_lem : (ls : List Level) (us : List Val) → shadow (each _ (level.the_row).own_val ls us) → Places ls
levels_fit_lem [] us g = Places.none
levels_fit_lem (l ∷ ls) [] g = absurd g
levels_fit_lem (l ∷ ls) (u ∷ us) g = Places.more g.0.1.1.0.1.1.0.1 (levels_fit_lem ls us g.1)

mode_fits_lem : (m : Mode) (vs : List Val) → Is (modes.the_field).row ((modes.the_field).into m) vs → ModeSized m
mode_fits_lem mode.Browsing vs g = tt
mode_fits_lem (mode.Visit p) vs g = g.1.1.1.1.0.1.1.0.1
mode_fits_lem (mode.Password n) vs g = g.1.1.1.1.0.1

pub sized : (s : Session) (vs : List Val) → Is (row the_type) s vs → Sized s
sized s vs g = record {
  seven = above_length s vs g;
  above = levels_fit_lem s.above _ g.1.1.0.1.1;
  here = g.1.1.1.0.1.1.0.1.1.0.1;
  mode = mode_fits_lem s.mode _ g.1.1.1.1.0;
  thirty_two = cells_length s vs g;
  cells = cells_fit s vs g;
  eight = typed_length s vs g;
  typed = typed_fit s vs g;
}
