-- 01's starred cases, one statement over one list, in 01's order: what comes of Open and of each event, with
-- the session and the sheet that the call before left. What is listed was worked out by hand from 01.
use Rattle.std.specs.Prelude.{ℕ, ◌+◌, ◌≡◌, List, [], ◌∷◌, map, length}
use Rattle.laws.specs.Choice.{when◌then◌else◌, ◌=?◌}
use Rattle.session.specs.Session.{closed}
use Rattle.session.specs.Events.{up, down, left, right, enter, second}
use Rattle.session.specs.Answers.{answer_number}
use Rattle.session.specs.declared.session.Session.{Session}
use Rattle.handset.specs.Open.{open_answer, open_sheet}
use Rattle.handset.specs.declared.open.Opened.{Opened}
use Rattle.journal.specs.Journal.{Answered}
use Rattle.journal.specs.Sitting.{Sitting, begun_with, played, answered_in}
use Rattle.promises.specs.Examples.{pictured, counter, wide_counter, clock, three_digits, returning}

-- ---- a case

-- what is seen of a sitting
pub data Seen : Type 0 where
  -- Open is refused: its number, the session that it gives, and the sheet
  refused : ℕ → Session → List ℕ → Seen
  -- else the number of each answer (`answer_number`); and at the end the sheet, and the image place and the
  -- cursor line, from 0, of the shown table
  gives : List ℕ → List ℕ → ℕ → ℕ → Seen

-- what Open is given, the events, and what is to be seen
pub record Case : Type 0 where
  pub image : List ℕ
  pub sheet : List ℕ
  pub columns : ℕ
  pub lines : ℕ
  pub events : List ℕ
  pub seen : Seen

-- what is seen of a sitting that begins with t, and of an opening
abbrev pub seen_in : List ℕ → Sitting → List ℕ → Seen
seen_in im t es =
    Seen.gives (map (λ (x : Answered). answer_number x.answer) (answered_in im t es)) (played im t es).sheet
    (played im t es).session.here.table.0 (played im t es).session.here.cursor

abbrev pub seen_by : Opened → List ℕ → Seen → Seen
seen_by o sheet x = when o.refusal =? 0 then x else Seen.refused o.refusal o.session sheet

-- the sitting of a case
abbrev pub runs : Case → Seen
runs c =
    seen_by (open_answer c.image (length c.sheet) c.columns c.lines)
    (open_sheet c.image c.sheet c.columns c.lines)
    (seen_in c.image (begun_with c.image c.sheet c.columns c.lines) c.events)

-- and what is listed for it
abbrev pub expected : Case → Seen
expected c = c.seen

-- every case of a list comes out as listed
abbrev pub AsListed : List Case → Type 0
AsListed cs = map runs cs ≡ map expected cs

-- ---- how the list is written

-- the numbers of the answers
abbrev pub taken : ℕ
taken = 0

abbrev pub flash : ℕ
flash = 1

abbrev pub finished_at : ℕ → ℕ
finished_at place = 65536 + place

-- a display of 16 x 4, as in 01's picture
abbrev pub case : List ℕ → List ℕ → List ℕ → Seen → Case
case i s es x = record { image = i; sheet = s; columns = 16; lines = 4; events = es; seen = x }

-- the first five bytes of a prolog; 43 4D 46, and version 0.4
abbrev pub begins : List ℕ → List ℕ
begins bs = 0x43 ∷ 0x4d ∷ 0x46 ∷ 0 ∷ 4 ∷ bs

-- ---- the starred cases

-- Fields have sheet place 1, between a 7 and a 9 that are no field's, and hold something else than their
-- default before Open; the option of 01's picture has the one byte of its sheet. The top table is at 10
unfoldable pub starred : List Case
starred =
    -- nine bytes: 2, with a closed session, and the sheet as it was
    case (begins (0 ∷ 0 ∷ 0 ∷ 0xff ∷ [])) (7 ∷ []) [] (Seen.refused 2 closed (7 ∷ []))
    -- a prolog and nothing after it: 6
    ∷ case (begins (0 ∷ 0 ∷ 0 ∷ 0xff ∷ 0xfe ∷ [])) (7 ∷ []) [] (Seen.refused 6 closed (7 ∷ []))
    -- the other byte order: 5
    ∷ case (begins (0 ∷ 0 ∷ 0 ∷ 0xfe ∷ 0xff ∷ [])) (7 ∷ []) [] (Seen.refused 5 closed (7 ∷ []))
    -- counter -5 to 100 by 10, at 98: UP flashes, and ENTER leaves 98
    ∷ case counter (7 ∷ 1 ∷ 1 ∷ 9 ∷ []) (enter ∷ up ∷ enter ∷ [])
    (Seen.gives (taken ∷ flash ∷ finished_at 14 ∷ []) (7 ∷ 98 ∷ 0 ∷ 9 ∷ []) 10 0)
    -- DOWN gives 88
    ∷ case counter (7 ∷ 1 ∷ 1 ∷ 9 ∷ []) (enter ∷ down ∷ enter ∷ [])
    (Seen.gives (taken ∷ taken ∷ finished_at 14 ∷ []) (7 ∷ 88 ∷ 0 ∷ 9 ∷ []) 10 0)
    -- counter -32768 to 32767 by 10, at 32760: UP flashes, and ENTER leaves 32760
    ∷ case wide_counter (7 ∷ 1 ∷ 1 ∷ 9 ∷ []) (enter ∷ up ∷ enter ∷ [])
    (Seen.gives (taken ∷ flash ∷ finished_at 14 ∷ []) (7 ∷ 0xf8 ∷ 0x7f ∷ 9 ∷ []) 10 0)
    -- hours at 23: UP flashes, and the three ENTERs of the visit leave the time as it was
    ∷ case clock (7 ∷ 1 ∷ 1 ∷ 1 ∷ 9 ∷ []) (enter ∷ up ∷ enter ∷ enter ∷ enter ∷ [])
    (Seen.gives (taken ∷ flash ∷ taken ∷ taken ∷ finished_at 14 ∷ []) (7 ∷ 23 ∷ 5 ∷ 7 ∷ 9 ∷ []) 10 0)
    -- uchar ddd: 2 5 5 ENTER stores 255
    ∷ case three_digits (7 ∷ 1 ∷ 9 ∷ []) (enter ∷ 2 ∷ 5 ∷ 5 ∷ enter ∷ [])
    (Seen.gives (taken ∷ taken ∷ taken ∷ taken ∷ finished_at 14 ∷ []) (7 ∷ 255 ∷ 9 ∷ []) 10 0)
    -- 3 0 0 ENTER flashes and stores nothing
    ∷ case three_digits (7 ∷ 1 ∷ 9 ∷ []) (enter ∷ 3 ∷ 0 ∷ 0 ∷ enter ∷ [])
    (Seen.gives (taken ∷ taken ∷ taken ∷ taken ∷ flash ∷ []) (7 ∷ 0 ∷ 9 ∷ []) 10 0)
    -- and the visit stays, with its digits: LEFT LEFT 2 ENTER then stores 200
    ∷ case three_digits (7 ∷ 1 ∷ 9 ∷ []) (enter ∷ 3 ∷ 0 ∷ 0 ∷ enter ∷ left ∷ left ∷ 2 ∷ enter ∷ [])
    (Seen.gives (taken ∷ taken ∷ taken ∷ taken ∷ flash ∷ taken ∷ taken ∷ taken ∷ finished_at 14 ∷ [])
    (7 ∷ 200 ∷ 9 ∷ []) 10 0)
    -- 01's picture: ENTER RIGHT ENTER makes the byte 1
    ∷ case pictured (7 ∷ []) (enter ∷ right ∷ enter ∷ [])
    (Seen.gives (taken ∷ taken ∷ finished_at 24 ∷ []) (1 ∷ []) 10 0)
    -- ENTER ENTER leaves it 0
    ∷ case pictured (7 ∷ []) (enter ∷ enter ∷ []) (Seen.gives (taken ∷ finished_at 24 ∷ []) (0 ∷ []) 10 0)
    -- delay-to-top 3, in the submenu of the second line, at 27: two seconds in a row leave it shown
    ∷ case returning (7 ∷ []) (down ∷ right ∷ second ∷ second ∷ [])
    (Seen.gives (taken ∷ taken ∷ taken ∷ taken ∷ []) (7 ∷ []) 27 0)
    -- the third shows the top, at its first line: LEFT flashes there
    ∷ case returning (7 ∷ []) (down ∷ right ∷ second ∷ second ∷ second ∷ left ∷ [])
    (Seen.gives (taken ∷ taken ∷ taken ∷ taken ∷ taken ∷ flash ∷ []) (7 ∷ []) 10 0)
    -- and three that are not in a row do not
    ∷ case returning (7 ∷ []) (down ∷ right ∷ second ∷ second ∷ 0 ∷ second ∷ [])
    (Seen.gives (taken ∷ taken ∷ taken ∷ taken ∷ flash ∷ taken ∷ []) (7 ∷ []) 27 0)
    ∷ []
