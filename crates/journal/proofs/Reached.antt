-- The cursor line of each open table of a session that fits is a line of the image's derivation: from the top table on each was reached.
-- So what is on it reads without fault, and its fields are the image's.
use Prim.Native.Nat.{ℕ, zero, suc}
use mathlib.Core.Path.{◌≡◌, refl}
use mathlib.Core.Bool.{true}
use mathlib.Core.Logic.{◌⊎◌, inl, inr}
use mathlib.Core.List.Memᴰ
use mathlib.Core.List.{List, [], ◌∷◌, ◌++◌, Memᴰ}
use lib.ListN.{take}
use borrow.Author.Tests.{eqb-true, ltb-true}
use Rattle.laws.proofs.Cases.{and_l, and_r}
use Rattle.field.specs.declared.record.Field.{Field}
use Rattle.cmf.specs.Limits.{prolog_bytes, deepest_table}
use Rattle.cmf.specs.Grammar.{WellFormed}
use Rattle.cmf.specs.Places.{line_count}
use Rattle.cmf.proofs.Agreeing.{agree}
use Rattle.acceptance.proofs.Reach.{Reached, LineIn, line_reached, no_levels, top_reached}
use Rattle.session.specs.Fits.{cursor_line, cursor_head, level_fits, levels_fit, tables_fit, session_fits}
use Rattle.session.specs.declared.session.Level.{Level}
use Rattle.session.specs.declared.session.Session.{Session}

-- a level's cursor line, with so many levels left below it
pub record CursorIn (im : List ℕ) (fields : List Field) (l : Level) : Type 0 where
  pub left : ℕ
  pub line : LineIn im fields left (cursor_line im l)

module _ (im : List ℕ) (fields : List Field) (lines : ℕ) where
  -- the cursor line of a level that fits a table reached
  pub level_in : (left t : ℕ) (l : Level) → Reached im fields (suc left) t → level_fits im lines t l ≡ true → LineIn im fields left (cursor_line im l)
  unfolding level_fits
  level_in left t l r h =
      let e = eqb-true l.table.0 t (and_l _ _ h) in
      let k = ltb-true l.cursor (line_count im t) (and_l _ _ (and_r _ _ h)) in
      rw e (line_reached im (agree im) fields left t l.cursor r k)

  -- level by level, as fits goes
  levels_in :
      (ls : List Level) (left t : ℕ) (here : Level) → Reached im fields left t → levels_fit im lines t ls here ≡ true →
      (l : Level) → Memᴰ l (ls ++ (here ∷ [])) → CursorIn im fields l
  unfolding levels_fit cursor_head
  levels_in ls zero t here r h x m = no_levels im fields t r
  levels_in [] (suc left) t here r h x m = rw (Memᴰ.eq_of_singleton m) (record { left = left; line = level_in left t here r h })
  levels_in (l ∷ ls) (suc left) t here r h x m =
      go (Memᴰ.cases_cons m) (levels_in ls left (cursor_head im l).table.0 here below (and_r _ _ (and_r _ _ h)) x)
    where
      go : (x ≡ l) ⊎ Memᴰ x (ls ++ (here ∷ [])) → (Memᴰ x (ls ++ (here ∷ [])) → CursorIn im fields x) → CursorIn im fields x
      go (inl e) rest = rw e (record { left = left; line = level_in left t l r (and_l _ _ h) })
      go (inr o) rest = rest o

      below : Reached im fields left (cursor_head im l).table.0
      below = (level_in left t l r (and_l _ _ h)).below (and_l _ _ (and_r _ _ h))

-- the cursor line of each open table of a session that fits
pub open_line_in :
    (im : List ℕ) (n : ℕ) (w : WellFormed im n) (s : Session) → session_fits im s ≡ true →
    (l : Level) → Memᴰ l (take s.outer s.above ++ (s.here ∷ [])) → CursorIn im w.fields l
unfolding session_fits tables_fit
open_line_in im n w s h =
    levels_in im w.fields s.lines (take s.outer s.above) deepest_table prolog_bytes s.here (top_reached im n w)
    (and_r _ _ (and_l _ _ (and_r _ _ h)))

-- and of the shown one
pub cursor_line_in : (im : List ℕ) (n : ℕ) (w : WellFormed im n) (s : Session) → session_fits im s ≡ true → CursorIn im w.fields s.here
cursor_line_in im n w s h = open_line_in im n w s h s.here (Memᴰ.append_right (take s.outer s.above) (Memᴰ.head refl))
