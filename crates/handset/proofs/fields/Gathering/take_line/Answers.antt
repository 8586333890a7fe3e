-- The loop's invariant: with the components that are left, what is there comes to the whole.
use Prim.Native.Nat.{◌+◌, ◌-◌}
use mathlib.Core.Path.{◌≡◌, refl, sym, ◌∙◌}
use native.Mathlib.Omega.{arith}
use lib.ListN.{length}
use Rattle.handset.proofs.Filling.{held_taken, none_taken, components_last, components_next, components_done}
use Rattle.handset.proofs.fields.Gathering.take_line.Goals as goal
use Rattle.handset.proofs.fields.Gathering.take_line.Goals.{then-c, else-c}

pub returns-then-c-2-clause-taken : goal.returns-then-c-2-clause-taken
returns-then-c-2-clause-taken c =
    sym (components_last _ _ _ _ _ _ (omega arith) c.read_component-c.ensures (elim c.if-c.branch [
      | then-c w ↦ rw w.self-is (held_taken c.read_component-c.result _ w.if-c.true w.take.ensures.taken)
      | else-c w ↦ rw w.self-is (none_taken c.read_component-c.result w.if-c.false)
    ]) c.if-c-2.true) ∙ c.loop.invariant.taken

pub loop-preserved : goal.loop-preserved
loop-preserved c =
    let l = c.loop in
    let n = length c.args.image.now in
    let less : n + 1 - (l.counter + 1) ≡ n + 1 - l.counter - 1 = omega arith in
    let kept : (c.if-c.self.sheet.ghost_name ≡ l.self.sheet.ghost_name) × (c.if-c.self.places.ghost_name ≡ l.self.places.ghost_name) = elim c.if-c.branch [
      | then-c w ↦ rw w.self-is (w.take.ensures.same_sheet, w.take.ensures.same_places)
      | else-c w ↦ rw w.self-is (refl, refl)
    ] in
    record {
      same_sheet = kept.0 ∙ l.invariant.same_sheet;
      same_places = kept.1 ∙ l.invariant.same_places;
      taken = rw less (sym (components_next _ _ _ _ _ _ (omega arith) c.read_component-c.ensures (elim c.if-c.branch [
        | then-c w ↦ rw w.self-is (held_taken c.read_component-c.result _ w.if-c.true w.take.ensures.taken)
        | else-c w ↦ rw w.self-is (none_taken c.read_component-c.result w.if-c.false)
      ]) c.if-c-2.false) ∙ l.invariant.taken);
    }

pub returns-else-c-2-clause-taken : goal.returns-else-c-2-clause-taken
returns-else-c-2-clause-taken c =
    sym (components_next _ _ _ _ _ _ (omega arith) c.read_component-c.ensures (elim c.if-c.branch [
      | then-c w ↦ rw w.self-is (held_taken c.read_component-c.result _ w.if-c.true w.take.ensures.taken)
      | else-c w ↦ rw w.self-is (none_taken c.read_component-c.result w.if-c.false)
    ]) c.if-c-2.false ∙ components_done _ _ _ _ (omega arith)) ∙ c.loop.invariant.taken
