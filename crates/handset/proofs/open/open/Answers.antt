-- What the callees ensure, put together.
use mathlib.Core.Path.{◌≡◌}
use native.Mathlib.Omega.{arith}
use Rattle.cmf.specs.Refusals.{number}
use Rattle.cmf.proofs.Numbers.{number_positive}
use Rattle.handset.proofs.Opening.{rejected, accepted}
use Rattle.handset.proofs.open.open.Goals as goal

pub returns-in-Ok : goal.returns-in-Ok
returns-in-Ok c =
    let told = accepted c.args.image.now c.args.columns c.args.lines c.args.sheet.now _ c.in-Ok.ensures c.write_defaults.ensures in
    rw c.opened.ensures (record { value = told.0; sheet_after = told.1 })

pub returns-in-Err : goal.returns-in-Err
returns-in-Err c =
    let z : number c.in-Err.refusal ≡ 0 → ⊥ = λ e. omega (arith, number_positive c.in-Err.refusal, e) in
    let told = rejected c.args.image.now c.args.columns c.args.lines c.args.sheet.now _ c.in-Err.ensures z in
    rw c.refused.ensures (record { value = told.0; sheet_after = told.1 })
