-- All of them are where the definition says so.
use Rattle.std.proofs.Common.{rules, ℕ, ◌≡◌, ◌<◌, get_or, true}
use Rattle.std.specs.Prelude.{IsTrue, ◌↔◌}
use Rattle.std.proofs.iter.runs.Sources.{ranges}
use Rattle.field.specs.Cells.{legal, within}
use Rattle.field.specs.Profiles.{held_to}
use Rattle.field.proofs.Legal.{all_test}
use Rattle.field.proofs.work.Work.legal.Goals as goal

pub returns : goal.returns
unfolding legal
returns c = let a = c.args in
    let each : IsTrue c.all.result ↔ ((i : ℕ) → i < c.profile_of.result.cells → within (held_to a.kind a.self i) (get_or a.self.cells i 0) ≡ true) =
    search (rules, ranges) in
    rw (← c.profile_of.ensures) (all_test (held_to a.kind a.self) a.self.cells c.profile_of.result.cells c.all.result each.0 each.1)
