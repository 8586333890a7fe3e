-- Recording: a row of events is the events themselves, and the three writings one after the other are the record.
use Prim.Native.Nat.{ℕ, ◌+◌, ◌≤◌, ◌<◌}
use mathlib.Core.Path.{◌≡◌, refl, sym, ap, ◌∙◌}
use mathlib.Core.Bool.{true, false}
use mathlib.Core.List.{List, [], ◌∷◌, ◌++◌}
use native.Mathlib.Omega.{arith}
use lib.ListN.{length, length-append}
use borrow.Author.Tests.{eqb-true, leb-true, le-leb, lt-leb}
use Rattle.laws.specs.Choice.{◌=?◌, ◌≤?◌}
use Rattle.laws.specs.Parts.{put_at}
use Rattle.laws.proofs.Cases.{if_ind, if_eq, if_ne, and_l, and_r}
use Rattle.laws.proofs.Frame.{length_put}
use Rattle.session.specs.Events.{second}
use Rattle.handset.specs.Refusals.{◌before◌, ◌unless◌}
use Rattle.handset.proofs.Ordering.{first_given, next_given, holding, failing, none_before, none_unless}
use Rattle.record.specs.Numbers.{encoded, sequence_of, behind}
use Rattle.record.specs.Forms.{are_events, record_of, recording_refusal, recorded, recorded_in}
use Rattle.record.proofs.Groups.{one_group, count_most}
use Rattle.record.proofs.Stores.{put_next, behind_fits}

-- an event is one group, its own byte
pub row_events : (es : List ℕ) → are_events es ≡ true → sequence_of es ≡ es
unfolding sequence_of are_events
row_events [] h = refl
row_events (e ∷ es) h =
    let k : e ≤ second = leb-true e second (and_l (e ≤? second) (are_events es) h) in
    rw (one_group e (omega arith), row_events es (and_r (e ≤? second) (are_events es) h))

module _ (es : List ℕ) (good : are_events es ≡ true) where
  pub record_events : record_of es ≡ 1 ∷ (encoded (length es) ++ es)
  unfolding record_of sequence_of
  record_events = rw (row_events es good, one_group 1 (omega arith))

  pub length_record : length (record_of es) ≡ 1 + length (encoded (length es)) + length es
  length_record = rw record_events (omega (arith, length-append (encoded (length es)) es))

-- ---- what is refused, in its order

module _ (es : List ℕ) (room : ℕ) where
  pub too_many : 65535 < length es → 16 ≡ recording_refusal es room
  unfolding recording_refusal
  too_many h = sym (rw (failing 16 _ (lt-leb (length es) 65535 h)) (first_given 16 _ (λ z. omega arith)))

  module _ (few : length es ≤ 65535) where
    past_count : recording_refusal es room ≡ (13 unless are_events es) before (25 unless (length (record_of es) ≤? room))
    unfolding recording_refusal
    past_count = rw (holding 16 _ (le-leb (length es) 65535 few)) (next_given 0 _ refl)

    pub bad_event : are_events es ≡ false → 13 ≡ recording_refusal es room
    bad_event h = sym (past_count ∙ rw (failing 13 _ h) (first_given 13 _ (λ z. omega arith)))

    module _ (good : are_events es ≡ true) where
      past_events : recording_refusal es room ≡ 25 unless (length (record_of es) ≤? room)
      past_events = past_count ∙ rw (holding 13 _ good) (next_given 0 _ refl)

      pub too_short : room < 1 + length (encoded (length es)) + length es → 25 ≡ recording_refusal es room
      too_short h = sym (past_events ∙ failing 25 _ (lt-leb (length (record_of es)) room (omega (arith, length_record es good))))

      pub has_room : 1 + length (encoded (length es)) + length es ≤ room → 0 ≡ recording_refusal es room
      has_room h = sym (past_events ∙ holding 25 _ (le-leb (length (record_of es)) room (omega (arith, length_record es good))))

  -- what has been tested where nothing is refused
  module _ (z : 0 ≡ recording_refusal es room) where
    pub is_few : length es ≤ 65535
    unfolding recording_refusal
    is_few = leb-true (length es) 65535 (none_unless 16 _ (λ q. omega arith) (none_before _ _ (sym z)).0)

    is_good : are_events es ≡ true
    unfolding recording_refusal
    is_good = none_unless 13 _ (λ q. omega arith) (none_before _ _ (none_before _ _ (sym z)).1).0

    is_long : length (record_of es) ≤ room
    unfolding recording_refusal
    is_long = leb-true (length (record_of es)) room (none_unless 25 _ (λ q. omega arith) (none_before _ _ (none_before _ _ (sym z)).1).1)

    pub recorded_length : (n : ℕ) → n ≡ length (record_of es) → n ≡ (recorded es room).length
    unfolding recorded
    recorded_length n e = e ∙ sym (if_eq (recording_refusal es room) 0 _ _ (sym z))

-- the answer's number is what is refused
pub recorded_refusal : (es : List ℕ) (room k : ℕ) → k ≡ recording_refusal es room → k ≡ (recorded es room).refusal
unfolding recorded
recorded_refusal es room k e = e

-- ---- the room afterwards

module _ (es room : List ℕ) where
  pub refused_room : (k : ℕ) → (k ≡ 0 → ⊥) → k ≡ recording_refusal es (length room) → room ≡ recorded_in es room
  unfolding recorded_in
  refused_room k h e = sym (if_ne _ 0 _ _ (λ z. h (e ∙ z)))

  module _ (z : 0 ≡ recording_refusal es (length room)) where
    room_written : recorded_in es room ≡ put_at 0 (record_of es) room
    unfolding recorded_in
    room_written = if_eq _ 0 _ _ (sym z)

    -- one after the other, the three writings are the record
    in_three : put_at (behind (behind 0 (encoded 1) room) (encoded (length es)) (put_at 0 (encoded 1) room)) es
        (put_at (behind 0 (encoded 1) room) (encoded (length es)) (put_at 0 (encoded 1) room)) ≡ put_at 0 (record_of es) room
    in_three =
        let good = is_good es (length room) z in
        let fits = is_long es (length room) z in
        let whole = length_record es good in
        let g = one_group 1 (omega arith) in
        let l : length (encoded 1) ≡ 1 = ap length g in
        let b = behind_fits 0 (encoded 1) room (omega arith) in
        put_next (behind 0 (encoded 1) room) (encoded (length es)) es (put_at 0 (encoded 1) room)
        (omega (arith, length_put 0 (encoded 1) room))
        ∙ put_next 0 (encoded 1) (encoded (length es) ++ es) room (omega (arith, length-append (encoded (length es)) es))
        ∙ rw (record_events es good, g)

    pub recorded_room : (at start : ℕ) (r1 r2 r3 : List ℕ)
        → at ≡ behind 0 (encoded 1) room → r1 ≡ put_at 0 (encoded 1) room
        → start ≡ behind at (encoded (length es)) r1 → r2 ≡ put_at at (encoded (length es)) r1
        → r3 ≡ put_at start es r2 → r3 ≡ recorded_in es room
    recorded_room at start r1 r2 r3 a b c d e = e ∙ rw (c, d, a, b) in_three ∙ sym room_written

-- a record has at most 65,539 bytes
pub recorded_short : (es : List ℕ) (room : ℕ) → (recorded es room).length ≤ 65539
unfolding recorded recording_refusal
recorded_short es room =
    if_ind (λ (n : ℕ). n ≤ 65539) (recording_refusal es room =? 0)
    (λ t.
    let a = none_before _ _ (eqb-true (recording_refusal es room) 0 t) in
    let few = leb-true (length es) 65535 (none_unless 16 _ (λ z. omega arith) a.0) in
    let good = none_unless 13 _ (λ z. omega arith) (none_before _ _ a.1).0 in
    omega (arith, few, length_record es good, count_most (length es)))
    (λ t. omega arith)
