-- The desk's calls over C's buffers.
use Rattle.std.specs.Prelude.{ℕ, ◌+◌, List, length}
use Rattle.laws.specs.Choice.{when◌then◌else◌, ◌=?◌}
use Rattle.session.specs.Answers.{refused_from}
use Rattle.handset.specs.Refusals.{◌before◌, ◌unless◌}
use Rattle.session.specs.Session.{closed}
use Rattle.session.specs.declared.session.Session.{Session}
use Rattle.session_bytes.specs.Layout.{session_size, session_written}
use Rattle.marker.specs.Marking.{mark_refusal, marked, sums_in}
use Rattle.record.specs.Forms.{record_of, recording_refusal, events_of}
use Rattle.playback.specs.Replay.{play_refusal, play_answer, play_sheet, play_list}
use Rattle.binding.specs.Answers.{refused_by}

-- ---- marking, with room for n sums: another length than three is refused with 25, after all else

unfoldable pub sums_refusal : List ℕ → ℕ → List ℕ → ℕ → ℕ
sums_refusal im extent key n = mark_refusal im extent key before (25 unless (n =? 3))

unfoldable pub mark_number : List ℕ → ℕ → List ℕ → ℕ → ℕ
mark_number im extent key n = refused_by (sums_refusal im extent key n)

-- the sums right, wrong, blank; a refusal alters none of the room
unfoldable pub marked_sums : List ℕ → List ℕ → List ℕ → List ℕ → List ℕ
marked_sums im sheet key sums =
    when sums_refusal im (length sheet) key (length sums) =? 0 then sums_in (marked im sheet key) else sums

-- what is answered for room of the wrong length
abbrev pub refused_room : ℕ
refused_room = refused_from + 25

-- ---- recording

-- the record's length, or the refusal; the room afterwards is `recorded_in`
unfoldable pub record_number : List ℕ → ℕ → ℕ
record_number es room =
    when recording_refusal es room =? 0 then length (record_of es) else refused_by (recording_refusal es room)

-- ---- playing, with a session buffer of n bytes: one of another length is refused with 12, after all else,
-- and then nothing is written

unfoldable pub sized_refusal : List ℕ → ℕ → ℕ → ℕ → List ℕ → ℕ → ℕ → ℕ
sized_refusal im extent columns lines rec room n =
    play_refusal im extent columns lines rec room before (12 unless (n =? session_size))

-- the number of events, or the refusal
unfoldable pub play_number : List ℕ → ℕ → ℕ → ℕ → List ℕ → ℕ → ℕ → ℕ
play_number im extent columns lines rec room n =
    when sized_refusal im extent columns lines rec room n =? 0 then length (events_of rec)
    else refused_by (sized_refusal im extent columns lines rec room n)

unfoldable pub played_sheet : List ℕ → List ℕ → ℕ → ℕ → List ℕ → ℕ → ℕ → List ℕ
played_sheet im sheet columns lines rec room n =
    when n =? session_size then play_sheet im sheet columns lines rec room else sheet

unfoldable pub played_list : List ℕ → List ℕ → ℕ → ℕ → List ℕ → List ℕ → ℕ → List ℕ
played_list im sheet columns lines rec list n =
    when n =? session_size then play_list im sheet columns lines rec list else list

-- the session's bytes: those of a closed one where the replay is refused
unfoldable pub played_bytes : List ℕ → List ℕ → ℕ → ℕ → List ℕ → ℕ → List ℕ → List ℕ
played_bytes im sheet columns lines rec room bs =
    session_written (play_answer im sheet columns lines rec room).session bs

-- the session that the bytes then are; no buffer of another length is a session that fits
unfoldable pub played_session : List ℕ → List ℕ → ℕ → ℕ → List ℕ → ℕ → ℕ → Session
played_session im sheet columns lines rec room n =
    when n =? session_size then (play_answer im sheet columns lines rec room).session else closed
