-- The tests in their order; where all pass, the length is the record's.
use mathlib.Core.Path.{sym, ◌∙◌}
use native.Mathlib.Omega.{arith}
use lib.ListN.{length}
use Rattle.record.proofs.Records.{length_record, too_many, bad_event, too_short, has_room}
use Rattle.record.proofs.Groups.{count_most}
use Rattle.record.proofs.recording.check_recording.Goals as goal

pub returns-then-n-gt-MAX_EVENTS-clause-refusal_value : goal.returns-then-n-gt-MAX_EVENTS-clause-refusal_value
returns-then-n-gt-MAX_EVENTS-clause-refusal_value c = too_many _ _ c.if-n-gt-MAX_EVENTS.true

pub returns-then-not-are_events-clause-refusal_value : goal.returns-then-not-are_events-clause-refusal_value
returns-then-not-are_events-clause-refusal_value c = bad_event _ _ c.if-n-gt-MAX_EVENTS.false (sym c.are_events.ensures ∙ c.if-not-are_events.true)

pub overflow_add-length : goal.overflow_add-length
overflow_add-length c = omega (arith, c.group_count.ensures, count_most (length c.args.events.now))

pub overflow_add-length-2 : goal.overflow_add-length-2
overflow_add-length-2 c = omega (arith, c.group_count.ensures, count_most (length c.args.events.now))

pub returns-then-room-length-clause-refusal_value : goal.returns-then-room-length-clause-refusal_value
returns-then-room-length-clause-refusal_value c =
    too_short _ _ c.if-n-gt-MAX_EVENTS.false (sym c.are_events.ensures ∙ c.if-not-are_events.false) (rw c.group_count.ensures at c.if-room-length.true)

pub returns-clause-refusal_value : goal.returns-clause-refusal_value
returns-clause-refusal_value c =
    has_room _ _ c.if-n-gt-MAX_EVENTS.false (sym c.are_events.ensures ∙ c.if-not-are_events.false) (rw c.group_count.ensures at c.if-room-length.false)

pub returns-clause-length_value : goal.returns-clause-length_value
returns-clause-length_value c = rw c.group_count.ensures (sym (length_record _ (sym c.are_events.ensures ∙ c.if-not-are_events.false)))
