-- A search of the index answers by the entries' places.
use mathlib.Core.Path.{◌≡◌, refl}
use native.Mathlib.Omega.{arith}
use Rattle.std.proofs.Common.{◌≢◌, rules}
use borrow.Author.Tests.{tests}
use Rattle.std.proofs.lemmas.Iterator.{cases_from_any, YieldsList-from_range}
use Rattle.acceptance.specs.Index.{entry_at}
use Rattle.handset.proofs.Finding.{searched}
use Rattle.handset.proofs.option.is_reached.Goals as goal

pub returns : goal.returns
returns c =
    let a = c.args in
    searched a.place a.index.now a.k c.any.result
    (cases_from_any _ _ _ (λ i. (entry_at a.index.now i).place.0 ≡ a.place) (λ i. (entry_at a.index.now i).place.0 ≢ a.place) c.any.ensures.ran
    (YieldsList-from_range 0 a.k a.k refl (omega arith)) (λ i q k. search (rules, tests)) (λ i q k. search (rules, tests)))
