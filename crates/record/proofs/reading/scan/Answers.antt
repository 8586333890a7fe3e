-- The loop's invariant: whether the numbers that are left end the bytes, and whether all are events, is what it was at the start.
use Prim.Native.Nat.{◌+◌, ◌-◌}
use mathlib.Core.Bool.{Bool}
use mathlib.Core.Path.{◌≡◌, refl, sym, ap, ◌∙◌}
use native.Mathlib.Omega.{arith}
use Rattle.laws.specs.Choice.{◌and◌, ◌≤?◌}
use Rattle.laws.proofs.Cases.{and_i, and_true, and_false}
use Rattle.record.proofs.Steps.{row_broken, row_next, events_next, row_over, row_ends, events_none, row_refused, row_bad, row_good, and_on}
use Rattle.record.proofs.reading.scan.Goals as goal
use Rattle.record.proofs.reading.scan.Goals.{then-known, else-known}

pub loop-init : goal.loop-init
unfolding ◌and◌
loop-init c = let z : c.args.count - 0 ≡ c.args.count = omega arith in rw z (record { row = refl; events = refl })

pub returns-in_default : goal.returns-in_default
returns-in_default c = row_refused _ _ _ (sym c.loop.invariant.row ∙ row_broken _ _ _ (omega arith) (sym c.read_number.ensures ∙ c.in_default.is))

pub loop-preserved : goal.loop-preserved
loop-preserved c =
    let l = c.loop in
    let less : c.args.count - (l.counter + 1) ≡ c.args.count - l.counter - 1 = omega arith in
    let e = sym c.read_number.ensures ∙ c.in-Some.is in
    let known : c.if-known.known ≡ l.known and (c.in-Some.x ≤? 16) = elim c.if-known.branch [
      | then-known w ↦ w.known-is ∙ sym (and_true _ w.if-known.true)
      | else-known w ↦ w.known-is ∙ w.if-known.false ∙ sym (and_false _ w.if-known.false)
    ] in
    rw less (record {
      row = row_next _ _ _ _ _ (omega arith) e ∙ l.invariant.row;
      events = rw known (and_on _ _ _ ∙ ap (λ (b : Bool). l.known and b) (events_next _ _ _ _ _ (omega arith) e) ∙ l.invariant.events);
    })

pub returns-then-next-bytes : goal.returns-then-next-bytes
returns-then-next-bytes c = row_refused _ _ _ (sym c.loop.invariant.row ∙ row_over _ _ _ (omega arith) c.if-next-bytes.true)

pub returns-then-known-2 : goal.returns-then-known-2
returns-then-known-2 c =
    row_good _ _ _ (sym c.loop.invariant.row ∙ row_ends _ _ _ (omega arith) c.if-next-bytes.false)
    (sym c.loop.invariant.events ∙ and_i c.if-known-2.true (events_none _ _ _ (omega arith)))

pub returns-else-known-2 : goal.returns-else-known-2
returns-else-known-2 c =
    row_bad _ _ _ (sym c.loop.invariant.row ∙ row_ends _ _ _ (omega arith) c.if-next-bytes.false)
    (sym c.loop.invariant.events ∙ and_false _ c.if-known-2.false)
