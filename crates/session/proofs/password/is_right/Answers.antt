-- The loop: the digits up to here are right.
use Prim.Native.Nat.{◌+◌}
use mathlib.Core.Path.{◌≡◌, refl, sym}
use native.Mathlib.Omega.{arith}
use Rattle.session.specs.Passwords.{right_to}
use Rattle.session.proofs.Entering.{right_next, right_bad, right_out}
use Rattle.session.proofs.password.is_right.Goals as goal

pub loop-i-init : goal.loop-i-init
unfolding right_to
loop-i-init c = refl

pub returns-then-image-password : goal.returns-then-image-password
returns-then-image-password c = sym (right_out c.args.image.now c.args.typed (c.args.password + 1) c.loop-i.i c.args.count c.loop-i-test.true (omega arith))

pub overflow_add-password-in-loop-i : goal.overflow_add-password-in-loop-i
overflow_add-password-in-loop-i c = omega (arith, c.requires)

pub returns-then-b-d : goal.returns-then-b-d
returns-then-b-d c = sym (right_bad c.args.image.now c.args.typed (c.args.password + 1) c.loop-i.i c.args.count c.loop-i-test.true (λ e. c.if-b-d.true (omega (arith, e, c.byte_at-b.ensures, c.byte_at-d.ensures))))

pub loop-i-preserved : goal.loop-i-preserved
loop-i-preserved c = right_next c.args.image.now c.args.typed (c.args.password + 1) c.loop-i.i c.loop-i.invariant (omega (arith, c.if-b-d.false, c.byte_at-b.ensures, c.byte_at-d.ensures))

pub returns : goal.returns
returns c = let z : c.loop-i.i ≡ c.args.count = omega arith in rw (← z) (sym c.loop-i.invariant)
