-- What is promised of records, over the definitions that the contracts of `record`, `check_record`,
-- `write_number` and `read_number` cite. `proofs/Promises` proves it. Each clause has a mark, as in
-- `promises`: (theorem), or (by definition).
use Rattle.std.specs.Prelude.{ℕ, ◌+◌, ◌≤◌, ◌<◌, ◌≡◌, ◌≢◌, ◌↔◌, true, false, List, [], ◌∷◌, ◌++◌, length}
use Rattle.std.specs.Prelude.{take, drop}
use Rattle.std.specs.Prelude.{Some}
use Rattle.laws.specs.Choice.{when◌then◌else◌, ◌≤?◌}
use Rattle.laws.specs.Bytes.{byte_at}
use Rattle.laws.specs.Parts.{put_at}
use Rattle.record.specs.Numbers.{most_number, Written, encoded, behind, number_at}
use Rattle.record.specs.Forms.{are_events, record_of, recording_refusal, recorded, recorded_in}
use Rattle.record.specs.Forms.{record_refusal, events_of, start_of}

-- bytes: each below 256
abbrev pub Bytes : List ℕ → Type 0
Bytes s = (k : ℕ) → byte_at s k < 256

-- ---- numbers

-- bytes that are the number n are at a place of s, and end at the place next
pub record NumberIn (s : List ℕ) (at n next : ℕ) : Type 0 where
  pub bytes : List ℕ
  pub written : Written n bytes
  pub here : drop at s ≡ bytes ++ drop next s
  pub ends : next ≡ at + length bytes

pub record NumberPromises : Type 0 where
  -- (theorem) each number up to 65,535 has exactly one writing, and larger ones have none
  pub written : (n : ℕ) (b : List ℕ) → Written n b ↔ ((n ≤ most_number) × (b ≡ encoded n))
  -- (theorem) a number is read with the place after it exactly where it is written
  pub reads : (s : List ℕ) → Bytes s → (at n next : ℕ)
      → (number_at s at ≡ Some (n, next)) ↔ NumberIn s at n next
  -- (theorem) so what was written at a place is read there, with the place that the writer answered
  pub back : (s : List ℕ) (at n : ℕ) → n ≤ most_number → at + length (encoded n) ≤ length s
      → number_at (put_at at (encoded n) s) at ≡ Some (n, behind at (encoded n) s)

-- ---- records

-- numbers that a record can hold
abbrev pub Numbers : List ℕ → Type 0
Numbers [] = Unit {0}
Numbers (n ∷ ns) = (n ≤ most_number) × Numbers ns

-- s begins with the number n
pub record Begins (s : List ℕ) (n : ℕ) : Type 0 where
  pub next : ℕ
  pub here : NumberIn s 0 n next

-- s is the form number, the number of these events, and the events, be they good or bad
pub record Holds (s es : List ℕ) : Type 0 where
  pub numbers : Numbers es
  pub few : length es ≤ most_number
  pub whole : s ≡ record_of es

-- R45: the refusal number of bytes that are to be a record, 0 for none
pub data Judged (s : List ℕ) : ℕ → Type 0 where
  -- it begins with no number
  no_form : ((n : ℕ) → Begins s n → ⊥) → Judged s 16
  -- it begins with a number, which is not 1
  other_form : (n : ℕ) → Begins s n → n ≢ 1 → Judged s 17
  -- it begins with 1, but is not the record of any numbers
  broken : Begins s 1 → ((es : List ℕ) → Holds s es → ⊥) → Judged s 16
  -- it is the record of numbers, one of which is no event
  no_event : (es : List ℕ) → Holds s es → are_events es ≡ false → Judged s 13
  -- it is the record of events
  accepted : (es : List ℕ) → Holds s es → are_events es ≡ true → Judged s 0

-- events that a record can be made of
pub record Recordable (es : List ℕ) : Type 0 where
  pub few : length es ≤ most_number
  pub known : are_events es ≡ true

pub record RecordPromises : Type 0 where
  pub numbers : NumberPromises
  -- (theorem) bytes are refused exactly by R45
  pub judged : (s : List ℕ) → Bytes s → (k : ℕ) → (record_refusal s ≡ k) ↔ Judged s k
  -- (theorem) the events of a record are those that it was made of, so that no two lists have one record
  pub events : (es : List ℕ) → Recordable es
      → (record_refusal (record_of es) ≡ 0) × (events_of (record_of es) ≡ es)
  -- (theorem) and nothing but a record is accepted
  pub only : (s : List ℕ) → Bytes s → record_refusal s ≡ 0
      → Recordable (events_of s) × (s ≡ record_of (events_of s))
  -- (theorem) each is an event, whatever the bytes are
  pub known : (s : List ℕ) → record_refusal s ≡ 0 → are_events (events_of s) ≡ true
  -- (theorem) they are the record's bytes from a place on, since an event is one group
  pub part : (s : List ℕ) → record_refusal s ≡ 0 → (start_of s ≤ length s)
      × (drop (start_of s) s ≡ events_of s)
  -- (by definition) R46: the order of what a recording is refused for
  pub order : (es : List ℕ) (room : ℕ)
      → recording_refusal es room
      ≡ (when length es ≤? most_number
      then (when are_events es then (when length (record_of es) ≤? room then 0 else 25) else 13)
      else 16)
  -- (by definition) a refused recording has that number and the length 0, and alters no byte
  pub refused : (es room : List ℕ) → recording_refusal es (length room) ≢ 0
      → ((recorded es (length room)).refusal ≡ recording_refusal es (length room))
      × (((recorded es (length room)).length ≡ 0) × (recorded_in es room ≡ room))
  -- (theorem) any other tells the record's length; the room begins with the record, and goes on as it was
  pub done : (es room : List ℕ) → recording_refusal es (length room) ≡ 0
      → ((recorded es (length room)).refusal ≡ 0)
      × (((recorded es (length room)).length ≡ length (record_of es))
      × (recorded_in es room ≡ record_of es ++ drop (length (record_of es)) room))
  -- (theorem) no record has more than 65,539 bytes
  pub short : (es : List ℕ) (room : ℕ) → (recorded es room).length ≤ 65539
  -- (theorem) and so reading what was recorded gives the events
  pub read_back : (es room : List ℕ) → recording_refusal es (length room) ≡ 0
      → let s = take (recorded es (length room)).length (recorded_in es room) in
      (record_refusal s ≡ 0) × (events_of s ≡ es)
