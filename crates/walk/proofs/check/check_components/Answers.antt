-- The loop: the components from here on, done to the present state, come out as all of them do.
use Prim.Native.Nat.{ℕ, ◌+◌, ◌-◌, ◌/◌}
use mathlib.Core.Path.{◌≡◌, refl, sym, ap, ◌∙◌}
use native.Mathlib.Omega.{arith}
use lib.ListN.{length}
use Rattle.cmf.proofs.Numbers.{refused_number, unrefused_number}
use Rattle.acceptance.proofs.CodeSteps.{components_stop, components_last, components_next, components_done}
use Rattle.walk.proofs.check.check_components.Goals as goal
use Rattle.walk.proofs.check.check_components.Goals.{then-is_some-via-then-is_some, then-is_some-via-else-is_some+then-component}

pub loop-init : goal.loop-init
loop-init c = let z : length c.args.image.now + 1 - 0 ≡ length c.args.image.now + 1 = omega arith in (rw z, refl, λ h. h)

pub shape_of-index-then-is_some : goal.shape_of-index-then-is_some
shape_of-index-then-is_some c = c.take_component-v.auto.index ∙ c.loop.invariant.1

pub returns-then-is_some : goal.returns-then-is_some
returns-then-is_some c =
    let left = length c.args.image.now + 1 - c.loop.counter in
    let size = ap (λ (n : ℕ). n / 3) c.loop.invariant.1 in
    record {
      index_after = elim c.then-is_some.branch [
        | then-is_some-via-then-is_some w ↦ sym (c.loop.invariant.0 ∙ components_stop _ _ _ _ left _ _ _ _ (omega arith) size c.read_component-component.ensures c.take_component-v.ensures.index_after (refused_number _ c.is_some.ensures w.if-is_some.true))
        | then-is_some-via-else-is_some+then-component w ↦
            sym (c.loop.invariant.0 ∙ components_last _ _ _ _ left _ _ _ _ (omega arith) size c.read_component-component.ensures c.take_component-v.ensures.index_after (unrefused_number _ c.is_some.ensures w.if-is_some.false) w.if-component.true)
      ];
      stays_clean = λ h. c.take_component-v.ensures.stays_clean (c.loop.invariant.2 h);
    }

pub loop-preserved : goal.loop-preserved
loop-preserved c =
    let n = length c.args.image.now + 1 in
    let left = n - c.loop.counter in
    let z : n - (c.loop.counter + 1) ≡ left - 1 = omega arith in
    let size = ap (λ (n : ℕ). n / 3) c.loop.invariant.1 in (
      rw z (c.loop.invariant.0 ∙ components_next _ _ _ _ left _ _ _ _ (omega arith) size c.read_component-component.ensures c.take_component-v.ensures.index_after (unrefused_number _ c.is_some.ensures c.if-is_some.false) c.if-component.false),
      c.take_component-v.auto.index ∙ c.loop.invariant.1,
      λ h. c.take_component-v.ensures.stays_clean (c.loop.invariant.2 h),
    )

pub shape_of-index : goal.shape_of-index
shape_of-index c = c.loop.invariant.1

pub returns : goal.returns
returns c = record { index_after = sym (c.loop.invariant.0 ∙ components_done _ _ _ _ _ _ (omega arith)); stays_clean = c.loop.invariant.2 }
