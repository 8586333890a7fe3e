-- What is promised of records: numbers by their writings, reading by what bytes hold, recording by what is granted.
use Prim.Native.Nat.{ℕ, ◌≤◌}
use mathlib.Core.Path.{◌≡◌, refl, sym, ap, ◌∙◌}
use mathlib.Core.Bool.{true}
use mathlib.Core.List.{List, [], ◌∷◌, ◌++◌}
use native.Mathlib.Omega.{arith}
use lib.ListN.{length, take, drop}
use lib.Seq.{take_at}
use borrow.Author.Tests.{leb-true}
use Rattle.std.proofs.Common.{Some}
use Rattle.laws.specs.Choice.{when◌then◌else◌, ◌≤?◌}
use Rattle.laws.proofs.Cases.{if_eq, if_ne, and_l, and_r}
use Rattle.laws.proofs.Frame.{put_fits}
use Rattle.session.specs.Events.{second}
use Rattle.handset.specs.Refusals.{◌unless◌}
use Rattle.handset.proofs.Ordering.{tested_before, none_before, none_unless}
use Rattle.record.specs.Numbers.{most_number, encoded}
use Rattle.record.specs.Forms.{are_events, record_of, recording_refusal, recorded, recorded_in, record_refusal, events_of}
use Rattle.record.specs.Promises.{Numbers, Holds, Judged, Recordable, NumberPromises, RecordPromises}
use Rattle.record.proofs.Stores.{behind_fits}
use Rattle.record.proofs.Readings.{read_back}
use Rattle.record.proofs.Writings.{is_written, read_in, in_read}
use Rattle.record.proofs.Accepted.{events_read, holds_good, is_judged, judged_so}
use Rattle.record.proofs.Events.{events_known, events_part}
use Rattle.record.proofs.Records.{recorded_short}

-- ---- reading

-- events are numbers that a record can hold
event_numbers : (es : List ℕ) → are_events es ≡ true → Numbers es
unfolding are_events
event_numbers [] h = tt
event_numbers (e ∷ es) h =
    let k : e ≤ second = leb-true e second (and_l (e ≤? second) (are_events es) h) in
    (omega arith, event_numbers es (and_r (e ≤? second) (are_events es) h))

-- what a record was made of is read
read_events : (es : List ℕ) → Recordable es → (record_refusal (record_of es) ≡ 0) × (events_of (record_of es) ≡ es)
read_events es r =
    let h : Holds (record_of es) es = record { numbers = event_numbers es r.known; few = r.few; whole = refl } in
    (holds_good (record_of es) es h r.known, events_read (record_of es) es h)

-- what is judged a record is one
only_record : (s : List ℕ) (k : ℕ) → Judged s k → k ≡ 0 → Recordable (events_of s) × (s ≡ record_of (events_of s))
only_record s k (Judged.no_form f) z = absurd (omega arith)
only_record s k (Judged.other_form n b h) z = absurd (omega arith)
only_record s k (Judged.broken b f) z = absurd (omega arith)
only_record s k (Judged.no_event es h g) z = absurd (omega arith)
only_record s k (Judged.accepted es h g) z = rw (events_read s es h) (record { few = h.few; known = g }, h.whole)

-- ---- recording

-- the events can be recorded, and the room is long enough
record Granted (es : List ℕ) (room : ℕ) : Type 0 where
  pub events : Recordable es
  pub fits : length (record_of es) ≤ room

-- that is so where a recording is not refused
granted : (es : List ℕ) (room : ℕ) → recording_refusal es room ≡ 0 → Granted es room
unfolding recording_refusal
granted es room z =
    let a = none_before _ _ z in
    let b = none_before _ _ a.1 in
    record {
      events = record {
        few = leb-true (length es) most_number (none_unless 16 _ (λ q. omega arith) a.0);
        known = none_unless 13 _ (λ q. omega arith) b.0;
      };
      fits = leb-true (length (record_of es)) room (none_unless 25 _ (λ q. omega arith) b.1);
    }

module _ (es room : List ℕ) where
  -- a refusal alters no byte
  refused : (recording_refusal es (length room) ≡ 0 → ⊥)
      → ((recorded es (length room)).refusal ≡ recording_refusal es (length room)) × (((recorded es (length room)).length ≡ 0) × (recorded_in es room ≡ room))
  unfolding recorded recorded_in
  refused h = (refl, (if_ne (recording_refusal es (length room)) 0 _ _ h, if_ne (recording_refusal es (length room)) 0 _ _ h))

  module _ (z : recording_refusal es (length room) ≡ 0) where
    -- no refusal is answered
    done_refusal : (recorded es (length room)).refusal ≡ 0
    unfolding recorded
    done_refusal = z

    -- the length answered is the record's
    done_length : (recorded es (length room)).length ≡ length (record_of es)
    unfolding recorded
    done_length = if_eq (recording_refusal es (length room)) 0 _ _ z

    -- the record is at the room's start, and the rest stays
    done_room : recorded_in es room ≡ record_of es ++ drop (length (record_of es)) room
    unfolding recorded_in
    done_room = if_eq (recording_refusal es (length room)) 0 _ _ z ∙ put_fits (record_of es) room (granted es (length room) z).fits

    -- as many bytes of the room as answered are the record
    done_record : take (recorded es (length room)).length (recorded_in es room) ≡ record_of es
    done_record = rw (done_length, done_room) (take_at (record_of es) _ (length (record_of es)) refl)

-- the refusals one by one
in_order : (es : List ℕ) (room : ℕ)
    → recording_refusal es room
    ≡ (when length es ≤? most_number then (when are_events es then (when length (record_of es) ≤? room then 0 else 25) else 13) else 16)
unfolding recording_refusal ◌unless◌
in_order es room =
    tested_before 16 (length es ≤? most_number) _ (λ z. omega arith)
    ∙ ap (λ (k : ℕ). when length es ≤? most_number then k else 16) (tested_before 13 (are_events es) _ (λ z. omega arith))

-- ---- all together

numbers : NumberPromises
numbers =
    record {
      written = is_written;
      reads = λ s bytes at n next. (in_read s at n next bytes, read_in s at n next);
      back = λ s at n small fits. read_back at n s small fits ∙ ap (λ (k : ℕ). Some (n, k)) (sym (behind_fits at (encoded n) s fits));
    }

pub promises : RecordPromises
promises =
    record {
      numbers = numbers;
      judged = λ s bytes k. (λ e. rw e at (is_judged s bytes), judged_so s bytes k);
      events = read_events;
      only = λ s bytes z. only_record s (record_refusal s) (is_judged s bytes) z;
      part = events_part;
      order = in_order;
      refused = refused;
      done = λ es room z. (done_refusal es room z, (done_length es room z, done_room es room z));
      known = events_known;
      short = recorded_short;
      read_back = λ es room z. rw (done_record es room z) (read_events es (granted es (length room) z).events);
    }
