-- What is promised of playing: the answers are as many as the events, so that they are the start of the list; demand 3 holds of the candidate whose
-- sitting is played; and reading what was recorded gives the events.
use Prim.Native.Nat.{ℕ, suc, ◌≤◌}
use mathlib.Core.Path.{◌≡◌, refl, sym, ap, ◌∙◌}
use mathlib.Core.Logic.{◌≢◌}
use mathlib.Core.Bool.{true}
use mathlib.Core.List.{List, [], ◌∷◌, ◌++◌}
use native.Mathlib.Omega.{arith}
use lib.ListN.{length, take, drop}
use borrow.Author.Tests.{le-leb, leb-true}
use Rattle.laws.specs.Choice.{when◌then◌else◌, ◌=?◌, ◌≤?◌}
use Rattle.laws.specs.Overwrite.{over}
use Rattle.laws.proofs.Cases.{if_eq, if_ne, and_l, and_r}
use Rattle.laws.proofs.Frame.{put_fits}
use Rattle.laws.proofs.Storing.{put_over}
use Rattle.session.specs.Events.{second}
use Rattle.handset.specs.Refusals.{◌before◌}
use Rattle.handset.specs.Open.{open_refusal}
use Rattle.handset.proofs.Ordering.{next_given, holding, tested_before, before_before, none_before, none_unless}
use Rattle.journal.specs.Sitting.{Sitting, begun_with, next, played, answered_in}
use Rattle.promises.specs.Unrefused.{NothingRefused}
use Rattle.promises.proofs.Promises as executor
use Rattle.record.specs.Forms.{are_events, recording_refusal, recorded, recorded_in, record_refusal, events_of}
use Rattle.record.proofs.Promises as records
use Rattle.playback.specs.Replay.{list_refusal, play_refusal, numbers_in, play_answer, play_sheet, play_list}
use Rattle.playback.specs.Promises.{NoneRefused, Gives, Leaves, Replays, candidate, PlaybackPromises}

-- ---- the answers

-- one for each event
numbers_each : (im : List ℕ) (t : Sitting) (es : List ℕ) → length (numbers_in (answered_in im t es)) ≡ length es
unfolding numbers_in answered_in
numbers_each im t [] = refl
numbers_each im t (e ∷ es) = ap suc (numbers_each im (next im t e) es)

-- written at the start of a list that has room for them
over_start : (list ns : List ℕ) → length ns ≤ length list → over list 0 ns ≡ ns ++ drop (length ns) list
over_start list ns h = sym (put_over 0 ns list (omega arith)) ∙ put_fits ns list h

-- none is a refusal, where nothing is refused on the way
none_refused : (im : List ℕ) (columns lines : ℕ) (t : Sitting) (es : List ℕ)
    → ((ds : List ℕ) → NothingRefused im columns lines (played im t ds)) → are_events es ≡ true → NoneRefused (answered_in im t es)
unfolding played answered_in are_events
none_refused im columns lines t [] h k = tt
none_refused im columns lines t (e ∷ es) h k =
    ((h []).answers e (leb-true e second (and_l _ _ k)), none_refused im columns lines (next im t e) es (λ ds. h (e ∷ ds)) (and_r _ _ k))

-- ---- a replay

module _ (im sheet : List ℕ) (columns lines : ℕ) (rec list : List ℕ) where
  abbrev refusal : ℕ
  refusal = play_refusal im (length sheet) columns lines rec (length list)

  leaves : refusal ≢ 0 → Leaves im sheet columns lines rec list refusal
  unfolding play_answer play_sheet play_list
  leaves h = record { told = if_ne _ 0 _ _ h; left = if_ne _ 0 _ _ h; listed = if_ne _ 0 _ _ h }

  module _ (z : refusal ≡ 0) where
    -- what has been tested
    unread : list_refusal rec (length list) ≡ 0
    unfolding play_refusal
    unread = (none_before _ _ z).0

    is_opened : open_refusal im (length sheet) columns lines ≡ 0
    unfolding play_refusal
    is_opened = (none_before _ _ z).1

    is_record : record_refusal rec ≡ 0
    unfolding list_refusal
    is_record = (none_before _ _ unread).0

    has_room : length (events_of rec) ≤ length list
    unfolding list_refusal
    has_room = leb-true (length (events_of rec)) (length list) (none_unless 25 _ (λ z. omega arith) (none_before _ _ unread).1)

    gives_events : Gives im sheet columns lines rec list (events_of rec)
    unfolding play_answer play_sheet play_list
    gives_events =
        let n = numbers_each im (begun_with im sheet columns lines) (events_of rec) in
        record {
          told = if_eq _ 0 _ _ z;
          left = if_eq _ 0 _ _ z;
          listed = if_eq _ 0 _ _ z ∙ over_start list _ (omega (arith, has_room)) ∙ rw n;
          each = n;
        }

    replays : Replays im sheet columns lines rec list
    replays =
        let d = (executor.promises).sittings im in
        let c = candidate im sheet columns lines (events_of rec) is_opened in
        record {
          gives = gives_events;
          opened = is_opened;
          sat = refl;
          journal = rw gives_events.left (d.journal c);
          answered = none_refused im columns lines (begun_with im sheet columns lines) (events_of rec)
              (λ ds. d.never_refused (candidate im sheet columns lines ds is_opened)) ((records.promises).known rec is_record);
          goes_on = d.never_refused c;
        }

-- ---- what was recorded

-- the refusal is Open's, where record and list are good
good_refusal : (im : List ℕ) (extent columns lines : ℕ) (rec : List ℕ) (room : ℕ) → record_refusal rec ≡ 0 → length (events_of rec) ≤ room
    → play_refusal im extent columns lines rec room ≡ open_refusal im extent columns lines
unfolding play_refusal list_refusal
good_refusal im extent columns lines rec room r l =
    next_given _ _ (next_given _ _ r ∙ holding 25 _ (le-leb (length (events_of rec)) room l))

as_recorded : (im sheet : List ℕ) (columns lines : ℕ) (es room list : List ℕ) → recording_refusal es (length room) ≡ 0
    → open_refusal im (length sheet) columns lines ≡ 0 → length es ≤ length list
    → Gives im sheet columns lines (take (recorded es (length room)).length (recorded_in es room)) list es
as_recorded im sheet columns lines es room list r o l =
    let rec = take (recorded es (length room)).length (recorded_in es room) in
    let b = (records.promises).read_back es room r in
    let z = good_refusal im (length sheet) columns lines rec (length list) b.0 (rw b.1 l) ∙ o in
    rw b.1 at (gives_events im sheet columns lines rec list z)

-- ---- all together

playback_order : (im : List ℕ) (extent columns lines : ℕ) (rec : List ℕ) (room : ℕ)
    → play_refusal im extent columns lines rec room
    ≡ (when record_refusal rec =? 0 then (when length (events_of rec) ≤? room then open_refusal im extent columns lines else 25) else record_refusal rec)
unfolding play_refusal list_refusal ◌before◌
playback_order im extent columns lines rec room =
    before_before (record_refusal rec) _ _
    ∙ ap (λ (k : ℕ). record_refusal rec before k) (tested_before 25 (length (events_of rec) ≤? room) (open_refusal im extent columns lines) (λ z. omega arith))

pub promises : (im : List ℕ) → PlaybackPromises im
promises im = record { order = playback_order im; refused = leaves im; replays = replays im; as_recorded = as_recorded im }
