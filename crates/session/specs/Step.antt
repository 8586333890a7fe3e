-- 01, The four calls: what an event makes of a session that fits, and of the sheet, by the mode that the
-- session is in.
use Rattle.std.specs.Prelude.{ℕ, List}
use Rattle.session.specs.Browsing.{browse_step}
use Rattle.session.specs.Passwords.{entry_step}
use Rattle.session.specs.Visits.{visit_step, visit_sheet}
use Rattle.session.specs.declared.session.Mode.{Mode}
use Rattle.session.specs.declared.session.Mode.TheVariants as mode
use Rattle.session.specs.declared.session.Session.{Session}
use Rattle.session.specs.declared.answer.Stepped.{Stepped}

unfoldable pub step_in : List ℕ → List ℕ → Session → ℕ → Mode → Stepped
step_in im sheet s e mode.Browsing = browse_step im sheet s e
step_in im sheet s e (mode.Visit p) = visit_step im sheet s p e
step_in im sheet s e (mode.Password n) = entry_step im s n e

-- only a visit changes the sheet
unfoldable pub sheet_in : List ℕ → List ℕ → Session → ℕ → Mode → List ℕ
sheet_in im sheet s e mode.Browsing = sheet
sheet_in im sheet s e (mode.Visit p) = visit_sheet im sheet s p e
sheet_in im sheet s e (mode.Password n) = sheet

abbrev pub step_of : List ℕ → List ℕ → Session → ℕ → Stepped
step_of im sheet s e = step_in im sheet s e s.mode

abbrev pub sheet_of : List ℕ → List ℕ → Session → ℕ → List ℕ
sheet_of im sheet s e = sheet_in im sheet s e s.mode
