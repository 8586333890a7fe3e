-- 02, No. 2: a record, as it is written and as it is read.
use Rattle.std.specs.Prelude.{ℕ, Bool, true, List, [], ◌∷◌, length}
use Rattle.laws.specs.Choice.{when◌then◌else◌, ◌and◌, ◌=?◌, ◌≤?◌}
use Rattle.laws.specs.Parts.{put_at}
use Rattle.session.specs.Events.{second}
use Rattle.handset.specs.Refusals.{◌before◌, ◌unless◌}
use Rattle.record.specs.Numbers.{most_number, sequence_of, number_at, on_read, numbers_at, end_after}

-- 01, The four calls: events are 0 to 16
unfoldable pub are_events : List ℕ → Bool
are_events [] = true
are_events (e ∷ es) = e ≤? second and are_events es

-- ---- recording

-- the record of events: the form number, 1; the number of events; the events
unfoldable pub record_of : List ℕ → List ℕ
record_of es = sequence_of (1 ∷ length es ∷ es)

-- R46: 16 for more events than a number can tell, then 13 for a number that is no event, then 25 where the
-- room has fewer bytes than the record
unfoldable pub recording_refusal : List ℕ → ℕ → ℕ
recording_refusal es room =
    (16 unless (length es ≤? most_number)) before (13 unless are_events es)
    before (25 unless (length (record_of es) ≤? room))

-- what a recording answers
pub record Recorded : Type 0 where
  pub refusal : ℕ
  pub length : ℕ

-- the refusal number, 0 for none, and the record's length, 0 where it is refused
unfoldable pub recorded : List ℕ → ℕ → Recorded
recorded es room = record {
  refusal = recording_refusal es room;
  length = when recording_refusal es room =? 0 then length (record_of es) else 0;
}

-- the room after it: the record at its start, and its rest as it was; a refusal alters no byte
unfoldable pub recorded_in : List ℕ → List ℕ → List ℕ
recorded_in es room = when recording_refusal es (length room) =? 0 then put_at 0 (record_of es) room else room

-- ---- reading: the head

-- what goes on after the form number and the number of events, with that number and the place after it;
-- `broken` where one of the two breaks the rules or is missing, `other` for another form
unfoldable pub on_head : {A : Type 0} → A → A → (ℕ → ℕ → A) → List ℕ → A
on_head broken other f s =
    on_read broken (λ form at. when form =? 1 then on_read broken f (number_at s at) else other)
    (number_at s 0)

-- ---- reading: the events

-- n numbers come from a place on, and nothing after them
unfoldable pub is_sequence : ℕ → List ℕ → ℕ → Bool
is_sequence n s at = (length (numbers_at n s at) =? n) and (end_after n s at =? length s)

-- R45: 16 unless these numbers come, wherever the fault is; then 13 for one that is no event
unfoldable pub events_refusal : ℕ → List ℕ → ℕ → ℕ
events_refusal n s at = (16 unless is_sequence n s at) before (13 unless are_events (numbers_at n s at))

-- R45: the refusal number of a record, 0 for none: 16 for the form number, 17 for another form, 16 for all
-- that follows it, 13
unfoldable pub record_refusal : List ℕ → ℕ
record_refusal s = on_head 16 17 (λ n at. events_refusal n s at) s

-- the events of a record that is not refused: the numbers after the number of events
unfoldable pub events_of : List ℕ → List ℕ
events_of s = on_head [] [] (λ n at. numbers_at n s at) s

-- ---- what the check answers

-- where the events begin; as each is its own byte, they are the bytes from there on (`Promises`)
unfoldable pub start_of : List ℕ → ℕ
start_of s = on_head 0 0 (λ n at. at) s

-- what the check of a record answers
pub record Checked : Type 0 where
  pub refusal : ℕ
  pub events : ℕ
  pub start : ℕ

-- the refusal number, 0 for none; the number of events and where they begin, 0 where the record is refused
unfoldable pub checked : List ℕ → Checked
checked s = record {
  refusal = record_refusal s;
  events = when record_refusal s =? 0 then length (events_of s) else 0;
  start = when record_refusal s =? 0 then start_of s else 0;
}
