-- The list of answers has 16,000 entries.
use Prim.Native.Nat.{ℕ}
use lib.ListN.{length-replicate}
use Rattle.replay.proofs.Ends.{ended}
use Rattle.replay.proofs.playing.replay.Goals as goal

pub returns-clause-value : goal.returns-clause-value
returns-clause-value c =
    let played = c.play-replayed.ensures in
    let last = c.draw.ensures.picture_after in
    (ended _ _ _ _ _ _ _ _ (length-replicate {A = ℕ} 16000 0) played.value played.sheet_after last).0

pub returns-clause-picture_after : goal.returns-clause-picture_after
returns-clause-picture_after c =
    let played = c.play-replayed.ensures in
    let last = c.draw.ensures.picture_after in
    (ended _ _ _ _ _ _ _ _ (length-replicate {A = ℕ} 16000 0) played.value played.sheet_after last).1.1
