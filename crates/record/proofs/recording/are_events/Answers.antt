-- Whether all pass the test is what the definition says, an event at a time.
use Rattle.std.proofs.Common.{◌≤◌, ◌<◌, rules}
use borrow.Author.Tests.{tests}
use Rattle.std.proofs.lemmas.Iterator.{cases_from_all, YieldsList-from_slice}
use Rattle.record.proofs.Steps.{all_events}
use Rattle.record.proofs.recording.are_events.Goals as goal

pub returns : goal.returns
returns c =
    all_events c.args.events.now c.all.result
    (cases_from_all _ _ _ (λ e. e ≤ 16) (λ e. 16 < e) c.all.ensures.ran (YieldsList-from_slice c.args.events.now (cc)) (λ x q k. search (rules, tests)) (λ x q k. search (rules, tests)))
