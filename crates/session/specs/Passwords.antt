-- 01, Keys, password: an entry, digit by digit.
use Rattle.std.specs.Prelude.{ℕ, zero, suc, ◌+◌, Bool, true, List, get_or, set}
use Rattle.laws.specs.Choice.{when◌then◌else◌, ◌and◌, ◌=?◌, ◌<?◌, ◌≤?◌}
use Rattle.laws.specs.Bytes.{byte_at}
use Rattle.laws.specs.Digits.{digit0}
use Rattle.cmf.specs.declared.head.Head.{Head}
use Rattle.session.specs.Fits.{cursor_head}
use Rattle.session.specs.Answers.{taken, flash, with_idle, in_mode, browsing, in_entry}
use Rattle.session.specs.Browsing.{descended}
use Rattle.session.specs.Seconds.{entry_second}
use Rattle.session.specs.Events.{last_digit_key, left, second}
use Rattle.session.specs.declared.session.Mode.TheVariants as mode
use Rattle.session.specs.declared.session.Session.{Session}
use Rattle.session.specs.declared.answer.Stepped.{Stepped}

-- the first n digits typed are those of the password whose digits are from a place on
unfoldable pub right_to : List ℕ → ℕ → List ℕ → ℕ → Bool
right_to im at ds zero = true
right_to im at ds (suc n) = right_to im at ds n and (byte_at im (at + n) =? digit0 + get_or ds n 0)

-- the entry is over, with these digits typed
abbrev pub entry_over : Session → List ℕ → Session
entry_over s ds = in_mode s mode.Browsing s.work ds

-- all digits are typed: the submenu opens if they are right, else the entry ends with a flash
unfoldable pub last_digit : List ℕ → Session → Head → List ℕ → ℕ → Stepped
last_digit im s h ds n =
    when right_to im (h.password.0 + 1) ds n then descended (entry_over s ds) h.table.0
    else flash (entry_over s ds)

-- a digit after n others
unfoldable pub digit_step : List ℕ → Session → Head → ℕ → ℕ → Stepped
digit_step im s h n d =
    when n + 1 <? byte_at im h.password.0 then taken (in_entry s (n + 1) (set s.typed n d))
    else last_digit im s h (set s.typed n d) (n + 1)

-- R24: LEFT gives up and is taken; a second counts; any other key flashes
unfoldable pub entry_step : List ℕ → Session → ℕ → ℕ → Stepped
entry_step im s n e =
    when e =? second then entry_second im s
    else when e =? left then taken (browsing (with_idle s 0))
    else when e ≤? last_digit_key then digit_step im (with_idle s 0) (cursor_head im s.here) n e
    else flash (with_idle s 0)
