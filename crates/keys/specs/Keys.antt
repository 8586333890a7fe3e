-- 01, Keys, a visit: what each key makes of the working copy. Keys go by the rows of the tables; only ENTER
-- asks the kind, for the row of the part that it goes to and whether it can store.
use Rattle.std.specs.Prelude.{ℕ, ◌+◌, ◌-◌, min, Bool, get_or, set}
use Rattle.laws.specs.Choice.{when◌then◌else◌, ◌and◌, ◌<?◌, ◌≤?◌}
use Rattle.field.specs.Profiles.{profile_of, cell_of}
use Rattle.field.specs.Cells.{stores}
use Rattle.field.specs.declared.kind.Kind.{Kind}
use Rattle.field.specs.declared.profile.Profile.{Profile}
use Rattle.field.specs.declared.profile.Cell.{Cell}
use Rattle.field.specs.declared.work.Work.{Work}
use Rattle.keys.specs.declared.press.Pressed.{Pressed}
use Rattle.keys.specs.declared.press.Outcome.TheVariants as outcome

-- the visit goes on with this working copy; a flash leaves it as it is (01's terms taken and flash; going to
-- the next part and passing a trigger by are taken too)
abbrev pub taken : Work → Pressed
taken w = record { work = w; outcome = outcome.Taken }

abbrev pub flash : Work → Pressed
flash w = record { work = w; outcome = outcome.Flash }

-- the next part of a time or date; the visit is done; a trigger fires; a trigger is passed by
abbrev pub next_part : Work → Pressed
next_part w = record { work = w; outcome = outcome.NextPart }

abbrev pub done : Work → Pressed
done w = record { work = w; outcome = outcome.Done }

abbrev pub fired : Work → Pressed
fired w = record { work = w; outcome = outcome.Fired }

abbrev pub passed_by : Work → Pressed
passed_by w = record { work = w; outcome = outcome.Passed }

-- the chosen cell; that cell set; another cell chosen
abbrev pub chosen : Work → ℕ
chosen w = get_or w.cells w.at 0

abbrev pub with_chosen : Work → ℕ → Work
with_chosen w x = record { cells = set w.cells w.at x; at = w.at }

abbrev pub choosing : Work → ℕ → Work
choosing w i = record { cells = w.cells; at = i }

-- a step up: a sign or bit is set, and setting what is set is taken; any other cell steps, and flashes where
-- it would leave its range
unfoldable pub raised : Cell → Work → Pressed
raised c w =
    when c.sets then taken (with_chosen w c.high)
    else when (chosen w + c.step) ≤? c.high then taken (with_chosen w (chosen w + c.step))
    else flash w

-- a step down
unfoldable pub lowered : Cell → Work → Pressed
lowered c w =
    when c.sets then taken (with_chosen w c.low)
    else when (c.low + c.step) ≤? chosen w then taken (with_chosen w (chosen w - c.step))
    else flash w

-- UP and DOWN step a digit, a part or a counter, or set a sign or bit; an option they do not step; any cursor
-- key fires a trigger
unfoldable pub up_key : Profile → Cell → Work → Pressed
up_key p c w = when p.fires then fired w else when p.slides then flash w else raised c w

unfoldable pub down_key : Profile → Cell → Work → Pressed
down_key p c w = when p.fires then fired w else when p.slides then flash w else lowered c w

-- LEFT and RIGHT move between the cells of an integer or switch, step an option, and flash past an end
unfoldable pub left_key : Profile → Cell → Work → Pressed
left_key p c w =
    when p.fires then fired w
    else when p.moves then (when 0 <? w.at then taken (choosing w (w.at - 1)) else flash w)
    else when p.slides then lowered c w
    else flash w

unfoldable pub right_key : Profile → Cell → Work → Pressed
right_key p c w =
    when p.fires then fired w
    else when p.moves then (when (w.at + 1) <? p.cells then taken (choosing w (w.at + 1)) else flash w)
    else when p.slides then raised c w
    else flash w

-- the cell on the right, or the last
unfoldable pub on_right : Profile → Work → ℕ
on_right p w = when (w.at + 1) <? p.cells then w.at + 1 else w.at

-- a digit key, 0 to 9, sets a digit cell and moves right, staying at the last; anywhere else it flashes
unfoldable pub digit_key : Profile → Cell → Work → ℕ → Pressed
digit_key p c w d =
    when c.typed then taken (choosing (with_chosen w d) (on_right p w))
    else flash w

-- a time or date with a part after the chosen one
unfoldable pub part_after : Profile → Work → Bool
part_after p w = p.parts and ((w.at + 1) <? p.cells)

-- 02, No. 3, R50: ENTER caps the part that it goes to at that part's high end. Where a session fits only a
-- day can be above it, one that its month has not
unfoldable pub capped : Kind → Work → Work
capped k w = with_chosen w (min (chosen w) (cell_of k w.cells w.at).high)

-- ENTER passes a trigger by, and goes to the next part of a time or date; the last ENTER finishes the visit
-- if what is shown can be stored
unfoldable pub enter_key : Kind → Work → Pressed
enter_key k w =
    when (profile_of k).fires then passed_by w
    else when part_after (profile_of k) w then next_part (capped k (choosing w (w.at + 1)))
    else when stores k w.cells then done w
    else flash w
