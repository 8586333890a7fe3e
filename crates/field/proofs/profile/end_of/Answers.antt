-- A short year needs no 2000 added (proofs/Calendars).
use Rattle.field.specs.Profiles.{end_of}
use Rattle.field.proofs.Calendars.{end_full}
use Rattle.field.proofs.profile.end_of.Goals as goal

pub returns : goal.returns
unfolding end_of
returns c = λ long. simp (c.month_end.ensures, end_full)
