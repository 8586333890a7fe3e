-- What an event makes of a session: the answers, and a session with something changed (01, The four calls and
-- Keys).
use Rattle.std.specs.Prelude.{ℕ, ◌+◌, min, Bool, true, false, List}
use Rattle.field.specs.declared.kind.ImagePlace.{ImagePlace}
use Rattle.field.specs.declared.work.Work.{Work}
use Rattle.session.specs.declared.session.Level.{Level}
use Rattle.session.specs.declared.session.Mode.{Mode}
use Rattle.session.specs.declared.session.Mode.TheVariants as mode
use Rattle.session.specs.declared.session.Session.{Session}
use Rattle.session.specs.declared.answer.Answer.{Answer}
use Rattle.session.specs.declared.answer.Answer.TheVariants as answer
use Rattle.session.specs.declared.answer.Stepped.{Stepped}

-- an answer's number, with its image place or refusal number added: 0, 1, 65,536 and 131,072 are those of
-- request 2; a refusal has 2^24 added, so that answers in an accepted image, whose places are below 32,768,
-- never share a number (`proofs/Answers`)
abbrev pub finished_from : ℕ
finished_from = 65536

abbrev pub fired_from : ℕ
fired_from = 131072

abbrev pub refused_from : ℕ
refused_from = 16777216

unfoldable pub answer_number : Answer → ℕ
answer_number answer.Taken = 0
answer_number answer.Flash = 1
answer_number (answer.Finished p) = finished_from + p.0
answer_number (answer.Fired p) = fired_from + p.0
answer_number (answer.Refused n) = refused_from + n

-- the number as the code tells it, in 32 bits: no place of an image is cut (`handset` `event-told`)
abbrev pub most_place : ℕ
most_place = 65535

unfoldable pub told_number : Answer → ℕ
told_number answer.Taken = 0
told_number answer.Flash = 1
told_number (answer.Finished p) = finished_from + min p.0 most_place
told_number (answer.Fired p) = fired_from + min p.0 most_place
told_number (answer.Refused n) = refused_from + n

-- the answers that are told apart: a flash, a refusal
abbrev pub is_flash : Answer → Bool
is_flash answer.Taken = false
is_flash answer.Flash = true
is_flash (answer.Finished p) = false
is_flash (answer.Fired p) = false
is_flash (answer.Refused n) = false

abbrev pub is_refused : Answer → Bool
is_refused answer.Taken = false
is_refused answer.Flash = false
is_refused (answer.Finished p) = false
is_refused (answer.Fired p) = false
is_refused (answer.Refused n) = true

-- 01's terms: taken, the event did what it is for; flash, it can't be done
abbrev pub taken : Session → Stepped
taken s = record { session = s; answer = answer.Taken }

abbrev pub flash : Session → Stepped
flash s = record { session = s; answer = answer.Flash }

-- ---- a session with something changed

abbrev pub with_idle : Session → ℕ → Session
with_idle s i = record {
  columns = s.columns;
  lines = s.lines;
  outer = s.outer;
  above = s.above;
  here = s.here;
  idle = i;
  mode = s.mode;
  work = s.work;
  typed = s.typed;
}

-- another number of tables above, those tables, and the shown one
abbrev pub showing : Session → ℕ → List Level → Level → Session
showing s n ls l = record {
  columns = s.columns;
  lines = s.lines;
  outer = n;
  above = ls;
  here = l;
  idle = s.idle;
  mode = s.mode;
  work = s.work;
  typed = s.typed;
}

abbrev pub with_here : Session → Level → Session
with_here s l = showing s s.outer s.above l

-- another mode, working copy and digits typed
abbrev pub in_mode : Session → Mode → Work → List ℕ → Session
in_mode s m w ds = record {
  columns = s.columns;
  lines = s.lines;
  outer = s.outer;
  above = s.above;
  here = s.here;
  idle = s.idle;
  mode = m;
  work = w;
  typed = ds;
}

abbrev pub browsing : Session → Session
browsing s = in_mode s mode.Browsing s.work s.typed

abbrev pub in_visit : Session → ImagePlace → Work → Session
in_visit s p w = in_mode s (mode.Visit p) w s.typed

-- a password entry with n digits typed
abbrev pub in_entry : Session → ℕ → List ℕ → Session
in_entry s n ds = in_mode s (mode.Password n) s.work ds
