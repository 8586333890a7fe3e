-- The edit cursor is on the display, and an accepted image is short.
use Prim.Native.Nat.{ℕ, ◌+◌, ◌-◌, ◌≤◌, ◌<◌}
use mathlib.Core.Path.{◌≡◌}
use mathlib.Core.Bool.{true}
use mathlib.Core.List.{List, [], ◌∷◌}
use native.Mathlib.Omega.{arith}
use lib.ListN.{length, take}
use borrow.Author.Tests.{ltb-true, leb-true}
use Rattle.laws.proofs.Cases.{and_l, and_r}
use Rattle.acceptance.specs.Check.{refusal_of}
use Rattle.acceptance.proofs.Acceptance.{accepted_exactly_when_well_formed}
use Rattle.session.specs.Fits.{cursor_head, shape_fits, level_fits, levels_fit, tables_fit, session_fits}
use Rattle.session.specs.declared.session.Level.{Level}
use Rattle.session.specs.declared.session.Mode.{Mode}
use Rattle.session.specs.declared.session.Mode.TheVariants as mode
use Rattle.session.specs.declared.session.Session.{Session}
use Rattle.picture.specs.Cursor.{cursor_in, data_cell}
use Rattle.handset.proofs.Ordering.{Granted}
use Rattle.binding.specs.Answers.{cursor_number}

pub short : (im : List ℕ) (extent : ℕ) → refusal_of im extent ≡ 0 → length im ≤ 32768
short im extent h = ((accepted_exactly_when_well_formed im extent).0 h).prolog.most

-- ---- the edit cursor

-- the shown cursor line is within the lines - 1 shown
here_shown : (im : List ℕ) (lines t : ℕ) (ls : List Level) (here : Level) → levels_fit im lines t ls here ≡ true → here.cursor < here.first + (lines - 1)
unfolding levels_fit level_fits
here_shown im lines t [] here h = ltb-true _ _ (and_r _ _ (and_r _ _ (and_r _ _ h)))
here_shown im lines t (l ∷ ls) here h = here_shown im lines (cursor_head im l).table.0 ls here (and_r _ _ (and_r _ _ h))

cursor_below : (im : List ℕ) (s : Session) (m : Mode) → s.here.cursor < s.here.first + (s.lines - 1) → s.lines ≤ 4 → s.columns ≤ 20
    → cursor_number (cursor_in im s m) < 131072
unfolding cursor_in cursor_number data_cell
cursor_below im s mode.Browsing h k l = omega arith
cursor_below im s (mode.Visit p) h k l = omega arith
cursor_below im s (mode.Password n) h k l = omega arith

pub cursor_plain : (im : List ℕ) (extent : ℕ) (s : Session) → Granted im extent s → cursor_number (cursor_in im s s.mode) < 131072
unfolding session_fits shape_fits tables_fit
cursor_plain im extent s g =
    let shape = and_l _ _ g.fits in
    let tables = and_l _ _ (and_r _ _ g.fits) in
    cursor_below im s s.mode
    (here_shown im s.lines _ (take s.outer s.above) s.here (and_r _ _ tables))
    (leb-true s.lines 4 (and_r _ _ (and_r _ _ shape)))
    (leb-true s.columns 20 (and_r _ _ (and_l _ _ shape)))
