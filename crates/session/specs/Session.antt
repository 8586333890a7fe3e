-- The session as Open makes it, and the closed one (01, The four calls).
use Rattle.std.specs.Prelude.{ℕ, [], ◌∷◌, replicate}
use Rattle.field.specs.Cells.{most_cells}
use Rattle.field.specs.declared.work.Work.{Work}
use Rattle.cmf.specs.Limits.{prolog_bytes}
use Rattle.session.specs.declared.session.Level.{Level}
use Rattle.session.specs.declared.session.Session.{Session}
use Rattle.session.specs.declared.session.Mode.TheVariants as mode

abbrev pub level : ℕ → ℕ → ℕ → Level
level t c f = record { table = record { 0 = t }; cursor = c; first = f }

abbrev pub no_level : Level
no_level = level 0 0 0

-- the working copy while there is no visit; fits does not look at it
abbrev pub no_work : Work
no_work = record { cells = replicate most_cells 0; at = 0 }

-- 01, The four calls: top table at line 1 (cursor 0 here), browsing, idle count 0
unfoldable pub opened : ℕ → ℕ → Session
opened columns lines = record {
  columns = columns;
  lines = lines;
  outer = 0;
  above = no_level ∷ no_level ∷ no_level ∷ no_level ∷ no_level ∷ no_level ∷ no_level ∷ [];
  here = level prolog_bytes 0 0;
  idle = 0;
  mode = mode.Browsing;
  work = no_work;
  typed = 0 ∷ 0 ∷ 0 ∷ 0 ∷ 0 ∷ 0 ∷ 0 ∷ 0 ∷ [];
}

-- a closed session: no display has 0 columns, so that it never fits
unfoldable pub closed : Session
closed = opened 0 0
