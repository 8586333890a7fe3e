-- A buffer of another length is refused last and left; else what `play` ensures of the bytes for columns and lines holds of the numbers.
use native.Mathlib.Omega.{arith}
use Rattle.binding.proofs.Replays.{unsized, events_small, play_refused, play_told}
use Rattle.binding.proofs.desk.handset_play.Goals as goal

pub returns-then-session-ne-SIZE : goal.returns-then-session-ne-SIZE
returns-then-session-ne-SIZE c =
    let told = unsized _ _ _ _ _ _ c.byte_of-across.ensures c.byte_of-down.ensures _ _ _ c.if-session-ne-SIZE.true _ c.unsized_replay-refusal.ensures in
    record { value = told.0; sheet_after = told.1.0; answers_after = told.1.1.0; session_after = told.1.1.1.0; session_after_2 = told.1.1.1.1 }

pub returns-then-replayed-ne0 : goal.returns-then-replayed-ne0
returns-then-replayed-ne0 c =
    let told = play_refused _ _ _ _ _ _ c.byte_of-across.ensures c.byte_of-down.ensures _ _ _ c.if-session-ne-SIZE.false _ c.play-replayed.ensures.value _ _ _ c.play-replayed.ensures.sheet_after c.play-replayed.ensures.answers_after c.write_session.ensures.bytes_after c.write_session.ensures.session_value _ c.if-replayed-ne0.true c.refused_by.ensures in
    record { value = told.0; sheet_after = told.1.0; answers_after = told.1.1.0; session_after = told.1.1.1.0; session_after_2 = told.1.1.1.1 }

pub overflow_cast-result-2 : goal.overflow_cast-result-2
overflow_cast-result-2 c = omega (arith, events_small c.args.image.now c.args.sheet.now _ _ _ _ c.byte_of-across.ensures c.byte_of-down.ensures c.args.recorded.now c.args.answers.now c.args.session.now c.if-session-ne-SIZE.false _ c.play-replayed.ensures.value (λ k. omega (arith, c.type_inv.recorded k)) c.if-replayed-ne0.false)

pub returns : goal.returns
returns c =
    let told = play_told _ _ _ _ _ _ c.byte_of-across.ensures c.byte_of-down.ensures _ _ _ c.if-session-ne-SIZE.false _ c.play-replayed.ensures.value _ _ _ c.play-replayed.ensures.sheet_after c.play-replayed.ensures.answers_after c.write_session.ensures.bytes_after c.write_session.ensures.session_value c.if-replayed-ne0.false in
    record { value = told.0; sheet_after = told.1.0; answers_after = told.1.1.0; session_after = told.1.1.1.0; session_after_2 = told.1.1.1.1 }
