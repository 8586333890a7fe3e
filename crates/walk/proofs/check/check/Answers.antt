-- Each return is the case of the definition that the tests on its path choose.
use mathlib.Core.Path.{refl}
use Rattle.laws.specs.Choice.{when◌then◌else◌}
use borrow.Author.Tests.{ne_eqb}
use mathlib.Core.Path.{◌≡◌}
use Rattle.cmf.specs.Refusals.{refusal_number}
use Rattle.cmf.proofs.Numbers.{refused_number}
use Rattle.acceptance.specs.Check.{prolog_refusal, checked, walked}
use Rattle.laws.specs.Overwrite.{fit}
use Rattle.acceptance.specs.Index.{listed, numbers_of, index_of}
use Rattle.acceptance.proofs.Indexed.{settled}
use Rattle.walk.proofs.check.check.Goals as goal

pub returns-in-Some : goal.returns-in-Some
unfolding checked listed index_of numbers_of fit when◌then◌else◌
returns-in-Some c =
    let refused = ne_eqb _ _ (λ (e : refusal_number (prolog_refusal c.args.image.now) ≡ 0). refused_number _ refl (rw (← c.prolog_refusal.ensures, c.in-Some.is) refl) e) in
    record { progress_value = simp (c.refused-progress.ensures, ← c.prolog_refusal.ensures, c.in-Some.is, refused); index_value = simp refused }

pub returns-in-None : goal.returns-in-None
unfolding checked walked listed index_of numbers_of fit when◌then◌else◌
returns-in-None c =
    let both = settled (checked c.args.image.now c.args.extent) c.check_table-progress.result _ _ refl c.check_table-progress.auto.index c.check_table-progress.ensures.stays_clean (simp (← c.prolog_refusal.ensures, c.in-None.is) c.check_table-progress.ensures.index_after) in
    record { progress_value = both.0; index_value = both.1 }
