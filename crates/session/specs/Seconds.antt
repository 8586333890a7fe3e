-- 01, Keys, seconds: the idle count, and what it ends.
use Rattle.std.specs.Prelude.{ℕ, ◌+◌, min, Bool, false, List}
use Rattle.laws.specs.Choice.{when◌then◌else◌, ◌=?◌, ◌≤?◌}
use Rattle.cmf.specs.Limits.{prolog_bytes}
use Rattle.cmf.specs.Readers.{image_of}
use Rattle.session.specs.Session.{level}
use Rattle.session.specs.Answers.{taken, with_idle, showing, browsing}
use Rattle.session.specs.declared.session.Session.{Session}
use Rattle.session.specs.declared.answer.Stepped.{Stepped}

-- the idle count's end
abbrev pub longest_idle : ℕ
longest_idle = 255

-- the count one second later: it rises to its end and stays there
unfoldable pub later : ℕ → ℕ
later i = min longest_idle (i + 1)

-- a delay has passed; 0 stands for never
unfoldable pub delay_over : ℕ → ℕ → Bool
delay_over delay i = when delay =? 0 then false else delay ≤? i

abbrev pub waited : Session → Session
waited s = with_idle s (later s.idle)

-- the top table at its first line
abbrev pub at_top : Session → Session
at_top s = showing s 0 s.above (level prolog_bytes 0 0)

-- while browsing, delay-to-top leads to the top; R25: the count stays as it is
unfoldable pub browse_second : List ℕ → Session → Stepped
browse_second im s = when delay_over (image_of im).delays.top (later s.idle) then taken (at_top (waited s))
    else taken (waited s)

-- during an entry, delay-password ends it, and nothing else happens
unfoldable pub entry_second : List ℕ → Session → Stepped
entry_second im s = when delay_over (image_of im).delays.password (later s.idle)
    then taken (browsing (waited s)) else taken (waited s)
