-- Refusals in their order: the first that is given decides (01, Refusal numbers).
use Rattle.std.specs.Prelude.{ℕ, Bool, List}
use Rattle.laws.specs.Choice.{when◌then◌else◌, ◌=?◌}
use Rattle.acceptance.specs.Check.{refusal_of}
use Rattle.session.specs.Fits.{session_fits}
use Rattle.session.specs.declared.session.Session.{Session}

infixr 20 ◌before◌
infix 22 ◌unless◌
-- a refusal number, or the next one where there is none; 0 is none
unfoldable pub ◌before◌ : ℕ → ℕ → ℕ
a before b = when a =? 0 then b else a

-- a refusal number where something does not hold
unfoldable pub ◌unless◌ : ℕ → Bool → ℕ
k unless t = when t then 0 else k

-- 01, Refusal numbers: a call that takes a session checks 2 to 11, then 12
unfoldable pub session_refusal : List ℕ → ℕ → Session → ℕ
session_refusal im extent s = refusal_of im extent before (12 unless session_fits im s)
