-- The loop's invariant: with the lines that are left, what is there comes to the whole table. The depth left falls.
use mathlib.Core.Path.{◌≡◌, refl, sym, ◌∙◌}
use native.Mathlib.Omega.{arith}
use Rattle.laws.proofs.Cases.{if_true, if_false}
use Rattle.handset.proofs.Filling.{lines_last, lines_next, lines_done, table_none, table_lines}
use Rattle.handset.proofs.fields.Gathering.+take_table.Goals as goal
use Rattle.handset.proofs.fields.Gathering.+take_table.Goals.{then-h, else-h}

pub returns-then-left-eq0-clause-taken : goal.returns-then-left-eq0-clause-taken
returns-then-left-eq0-clause-taken t c = sym (table_none _ _ _ _ c.if-left-eq0.true)

pub loop-init : goal.loop-init
loop-init t c = record { same_sheet = refl; same_places = refl; taken = sym (table_lines _ _ _ _ _ c.if-left-eq0.false c.read_title-line.ensures) }

pub returns-then-h-2-clause-taken : goal.returns-then-h-2-clause-taken
returns-then-h-2-clause-taken t c =
    sym (lines_last _ _ c.loop.counter _ _ _ _ _ (omega arith) c.read_head-h.ensures c.take_line.ensures.taken (elim c.if-h.branch [
      | then-h w ↦ rw w.self-is (w.take_table.ensures.taken ∙ sym (if_true _ _ w.if-h.true))
      | else-h w ↦ rw w.self-is (sym (if_false _ _ w.if-h.false))
    ]) c.if-h-2.true) ∙ c.loop.invariant.taken

pub loop-preserved : goal.loop-preserved
loop-preserved t c =
    let l = c.loop.invariant in
    let e = c.take_line.ensures in
    let kept : (c.if-h.self.sheet.ghost_name ≡ c.take_line.new.self.sheet.ghost_name) × (c.if-h.self.places.ghost_name ≡ c.take_line.new.self.places.ghost_name) = elim c.if-h.branch [
      | then-h w ↦ rw w.self-is (w.take_table.ensures.same_sheet, w.take_table.ensures.same_places)
      | else-h w ↦ rw w.self-is (refl, refl)
    ] in
    record {
      same_sheet = kept.0 ∙ e.same_sheet ∙ l.same_sheet;
      same_places = kept.1 ∙ e.same_places ∙ l.same_places;
      taken = sym (lines_next _ _ c.loop.counter _ _ _ _ _ (omega arith) c.read_head-h.ensures e.taken (elim c.if-h.branch [
        | then-h w ↦ rw w.self-is (w.take_table.ensures.taken ∙ sym (if_true _ _ w.if-h.true))
        | else-h w ↦ rw w.self-is (sym (if_false _ _ w.if-h.false))
      ]) c.if-h-2.false) ∙ l.taken;
    }

pub returns-clause-taken : goal.returns-clause-taken
returns-clause-taken t c = sym (lines_done _ _ _ _ _ c.loop-test.false) ∙ c.loop.invariant.taken
