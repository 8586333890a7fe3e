-- Refused by the record, refused by Open, or played: a case of the definition for each return.
use Rattle.playback.proofs.Replays.{record_refused, first_inside, open_refused, begins, events_known, all_played}
use Rattle.playback.proofs.play.play.Goals as goal

pub returns-in-Err : goal.returns-in-Err
returns-in-Err c =
    let told = record_refused _ _ _ _ _ _ _ c.in-Err.ensures.refusal_value _ (rw c.number.ensures at c.refused.ensures) in
    record { value = told.0; sheet_after = told.1.0; answers_after = told.1.1 }

pub returns-then-opened-ne0 : goal.returns-then-opened-ne0
returns-then-opened-ne0 c =
    let told = open_refused _ _ _ _ _ _ c.in-Ok.ensures.refusal_value _ _ c.open-opened.ensures.value c.open-opened.ensures.sheet_after _ c.if-opened-ne0.true c.refused-then-opened-ne0.ensures in
    record { value = told.0; sheet_after = told.1.0; answers_after = told.1.1 }

pub slice_bounds-events-count : goal.slice_bounds-events-count
slice_bounds-events-count c =
    let a = c.args in
    let listed = c.in-Ok.ensures in
    first_inside a.image.now a.sheet.now a.columns a.lines a.recorded.now a.answers.now listed.refusal_value _ _ listed.events_value.0 listed.events_value.1

pub slice_bounds-events-start : goal.slice_bounds-events-start
slice_bounds-events-start c =
    let a = c.args in
    let listed = c.in-Ok.ensures in
    first_inside a.image.now a.sheet.now a.columns a.lines a.recorded.now a.answers.now listed.refusal_value _ _ listed.events_value.0 listed.events_value.1

pub play_events-last-requires : goal.play_events-last-requires
play_events-last-requires c =
    let a = c.args in
    let listed = c.in-Ok.ensures in
    let opened = c.open-opened.ensures in
    record {
      unrefused = begins a.image.now a.sheet.now a.columns a.lines a.recorded.now a.answers.now listed.refusal_value _ _ opened.value opened.sheet_after c.if-opened-ne0.false;
      events_value = events_known a.image.now a.sheet.now a.columns a.lines a.recorded.now a.answers.now listed.refusal_value _ _ listed.events_value.0 listed.events_value.1;
    }

pub returns : goal.returns
returns c =
    let listed = c.in-Ok.ensures in
    let opened = c.open-opened.ensures in
    let last = c.play_events-last.ensures in
    let told = all_played _ _ _ _ _ _ listed.refusal_value _ _ listed.events_value.0 listed.events_value.1 _ _ opened.value opened.sheet_after c.if-opened-ne0.false _ _ _ last.value last.sheet_after last.answers_after in
    record { value = told.0; sheet_after = told.1.0; answers_after = told.1.1 }
