-- The loop's invariant: nothing is refused from here on, and what is left to play and to note gives the whole.
use mathlib.Core.Path.{◌∙◌}
use Rattle.playback.proofs.Turns.{unrefused_next, played_next, noted_next, played_whole}
use Rattle.playback.proofs.events.play_events.Goals as goal

pub loop-i-preserved : goal.loop-i-preserved
loop-i-preserved c =
    let im = c.args.image.now in
    let es = c.args.events.now in
    let known = c.requires.events_value in
    let l = c.loop-i.invariant in
    let s = c.step-stepped.ensures in
    record {
      good = unrefused_next im es known _ _ l.good _ _ _ c.loop-i-test.true s.value s.sheet_after;
      plays = played_next im es known _ _ l.good _ _ _ c.loop-i-test.true s.value s.sheet_after ∙ l.plays;
      notes = noted_next im es known _ _ l.good _ _ _ c.loop-i-test.true s.value s.sheet_after _ _ _ c.number.ensures c.note.ensures ∙ l.notes;
    }

pub returns : goal.returns
returns c =
    let told = played_whole c.args.image.now c.args.events.now _ _ _ _ _ _ c.loop-i-test.false c.loop-i.invariant.plays c.loop-i.invariant.notes in
    record { value = told.0; sheet_after = told.1.0; answers_after = told.1.1 }
