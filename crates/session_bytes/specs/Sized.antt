-- Nobody has to believe this file, which proofs alone cite: what the types of the code bound in a session, as
-- far as its bytes ask for it: the arrays' lengths, and numbers of more than a byte.
use Rattle.std.specs.Prelude.{ℕ, ◌^◌, ◌<◌, ◌≡◌, List, [], ◌∷◌, length}
use Rattle.session.specs.declared.session.Level.{Level}
use Rattle.session.specs.declared.session.Mode.{Mode}
use Rattle.session.specs.declared.session.Mode.TheVariants as mode
use Rattle.session.specs.declared.session.Session.{Session}

-- a place is 64 bits
abbrev pub Place : ℕ → Type 0
Place p = p < 256 ^ 8

pub data Places : List Level → Type 0 where
  none : Places []
  more : {l : Level} {ls : List Level} → Place l.table.0 → Places ls → Places (l ∷ ls)

-- numbers of w bytes each
pub data Numbers (w : ℕ) : List ℕ → Type 0 where
  none : Numbers w []
  more : {x : ℕ} {xs : List ℕ} → x < 256 ^ w → Numbers w xs → Numbers w (x ∷ xs)

abbrev pub ModeSized : Mode → Type 0
ModeSized mode.Browsing = Unit {0}
ModeSized (mode.Visit p) = Place p.0
ModeSized (mode.Password n) = n < 256

pub record Sized (s : Session) : Type 0 where
  pub seven : length s.above ≡ 7
  pub above : Places s.above
  pub here : Place s.here.table.0
  pub mode : ModeSized s.mode
  pub thirty_two : length s.work.cells ≡ 32
  pub cells : Numbers 4 s.work.cells
  pub eight : length s.typed ≡ 8
  pub typed : Numbers 1 s.typed
