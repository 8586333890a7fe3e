-- Each return is a step law of CodeSteps; the loop's invariant: what is left of the table's lines, done to the present state, is the whole. The depth left falls.
use native.Mathlib.Omega.{arith}
use Prim.Native.Nat.{ℕ, ◌+◌, ◌/◌}
use Rattle.std.proofs.Math.Nat.{min-eq_left}
use mathlib.Core.Path.{refl, sym, ap, ◌∙◌}
use Rattle.cmf.proofs.Numbers.{refused_number, unrefused_number}
use Rattle.acceptance.proofs.Indexed.{clean_head, clean_title}
use Rattle.acceptance.proofs.CodeSteps.{line_stop, line_bad, line_plain, line_deep, lines_stop, lines_last, lines_next, lines_done, table_stop, table_deep, table_lines}
use Rattle.walk.proofs.check.+check_line_check_table.Goals as goal

pub check_line-returns-then-is_some : goal.check_line-returns-then-is_some
check_line-returns-then-is_some t c = record { index_after = line_stop _ _ _ _ _ _ _ _ _ _ _ c.read_head-h.ensures c.take_line-v.ensures (refused_number _ c.is_some.ensures c.if-is_some.true); stays_clean = λ h. clean_head _ _ _ _ _ _ _ c.take_line-v.ensures h }

pub check_line-shape_of-index-then-is_some-2 : goal.check_line-shape_of-index-then-is_some-2
check_line-shape_of-index-then-is_some-2 t c = c.check_components-q.auto.index

pub check_line-returns-then-is_some-2 : goal.check_line-returns-then-is_some-2
check_line-returns-then-is_some-2 t c = record { index_after = line_bad _ _ _ _ _ _ _ _ _ _ _ c.read_head-h.ensures c.take_line-v.ensures (unrefused_number _ c.is_some.ensures c.if-is_some.false) _ c.check_components-q.ensures.index_after (refused_number _ c.is_some-2.ensures c.if-is_some-2.true); stays_clean = λ h. c.check_components-q.ensures.stays_clean (clean_head _ _ _ _ _ _ _ c.take_line-v.ensures h) }

pub check_line-check_table-t-requires : goal.check_line-check_table-t-requires
check_line-check_table-t-requires t c = (omega arith, tt)

pub check_line-shape_of-index-then-h : goal.check_line-shape_of-index-then-h
check_line-shape_of-index-then-h t c = c.check_table-t.auto.index ∙ c.check_components-q.auto.index

pub check_line-returns-then-h : goal.check_line-returns-then-h
check_line-returns-then-h t c = record { index_after = line_deep _ _ _ _ _ _ _ _ _ _ _ c.read_head-h.ensures c.take_line-v.ensures (unrefused_number _ c.is_some.ensures c.if-is_some.false) _ c.check_components-q.ensures.index_after _ _ _ _ (ap (λ (n : ℕ). n / 3) c.check_components-q.auto.index) (unrefused_number _ c.is_some-2.ensures c.if-is_some-2.false) c.if-h.true c.check_table-t.ensures.index_after c.past_line.ensures; stays_clean = λ h. rw c.past_line.ensures (c.check_table-t.ensures.stays_clean (c.check_components-q.ensures.stays_clean (clean_head _ _ _ _ _ _ _ c.take_line-v.ensures h))) }

pub check_line-shape_of-index : goal.check_line-shape_of-index
check_line-shape_of-index t c = c.check_components-q.auto.index

pub check_line-returns : goal.check_line-returns
check_line-returns t c = record { index_after = line_plain _ _ _ _ _ _ _ _ _ _ _ c.read_head-h.ensures c.take_line-v.ensures (unrefused_number _ c.is_some.ensures c.if-is_some.false) _ c.check_components-q.ensures.index_after (unrefused_number _ c.is_some-2.ensures c.if-is_some-2.false) c.if-h.false; stays_clean = λ h. c.check_components-q.ensures.stays_clean (clean_head _ _ _ _ _ _ _ c.take_line-v.ensures h) }

pub check_table-returns-then-is_some : goal.check_table-returns-then-is_some
check_table-returns-then-is_some t c = record { index_after = table_stop _ _ _ _ _ _ _ _ _ c.read_title-t.ensures c.take_title-v.ensures (refused_number _ c.is_some.ensures c.if-is_some.true); stays_clean = λ h. clean_title _ _ _ c.take_title-v.ensures h }

pub check_table-returns-then-left-eq0 : goal.check_table-returns-then-left-eq0
check_table-returns-then-left-eq0 t c = record { index_after = table_deep _ _ _ _ _ _ _ _ _ c.read_title-t.ensures c.take_title-v.ensures _ (unrefused_number _ c.is_some.ensures c.if-is_some.false) c.if-left-eq0.true c.refused.ensures; stays_clean = λ h. rw c.refused.ensures (clean_title _ _ _ c.take_title-v.ensures h) }

pub check_table-loop-init : goal.check_table-loop-init
check_table-loop-init t c = (rw c.first-line.ensures refl, refl, (λ h. h), rw c.first-line.ensures refl)

pub check_table-check_line-v-requires : goal.check_table-check_line-v-requires
check_table-check_line-v-requires t c = (omega arith, tt)

pub check_table-shape_of-index-then-is_some-2 : goal.check_table-shape_of-index-then-is_some-2
check_table-shape_of-index-then-is_some-2 t c = c.check_line-v.auto.index ∙ c.loop.invariant.1

pub check_table-returns-then-is_some-2 : goal.check_table-returns-then-is_some-2
check_table-returns-then-is_some-2 t c = record { index_after = sym (table_lines _ _ _ _ _ _ _ _ _ c.read_title-t.ensures c.take_title-v.ensures (unrefused_number _ c.is_some.ensures c.if-is_some.false) c.if-left-eq0.false ∙ (rw c.first-line.ensures at c.loop.invariant.0) ∙ lines_stop _ _ _ _ _ _ _ _ _ _ (omega (arith, c.loop.invariant.3)) (ap (λ (n : ℕ). n / 3) c.loop.invariant.1) c.check_line-v.ensures.index_after (refused_number _ c.is_some-in-loop.ensures c.if-is_some-2.true)); stays_clean = λ h. c.check_line-v.ensures.stays_clean (c.loop.invariant.2 (clean_title _ _ _ c.take_title-v.ensures h)) }

pub check_table-shape_of-index-then-h : goal.check_table-shape_of-index-then-h
check_table-shape_of-index-then-h t c = c.check_line-v.auto.index ∙ c.loop.invariant.1

pub check_table-returns-then-h : goal.check_table-returns-then-h
check_table-returns-then-h t c = record { index_after = sym (table_lines _ _ _ _ _ _ _ _ _ c.read_title-t.ensures c.take_title-v.ensures (unrefused_number _ c.is_some.ensures c.if-is_some.false) c.if-left-eq0.false ∙ (rw c.first-line.ensures at c.loop.invariant.0) ∙ lines_last _ _ _ _ _ _ _ _ _ _ (omega (arith, c.loop.invariant.3)) (ap (λ (n : ℕ). n / 3) c.loop.invariant.1) c.check_line-v.ensures.index_after _ c.read_head-h.ensures (unrefused_number _ c.is_some-in-loop.ensures c.if-is_some-2.false) c.if-h.true); stays_clean = λ h. c.check_line-v.ensures.stays_clean (c.loop.invariant.2 (clean_title _ _ _ c.take_title-v.ensures h)) }

pub check_table-loop-preserved : goal.check_table-loop-preserved
check_table-loop-preserved t c =
    let there = min-eq_left {n = c.loop.line.number + 1} {m = 18446744073709551615} (omega (arith, c.loop.invariant.3)) in
    rw c.next-line.ensures (rw there (c.loop.invariant.0 ∙ lines_next _ _ _ _ _ _ _ _ _ _ (omega (arith, c.loop.invariant.3)) (ap (λ (n : ℕ). n / 3) c.loop.invariant.1) c.check_line-v.ensures.index_after _ c.read_head-h.ensures (unrefused_number _ c.is_some-in-loop.ensures c.if-is_some-2.false) c.if-h.false, c.check_line-v.auto.index ∙ c.loop.invariant.1, (λ h. c.check_line-v.ensures.stays_clean (c.loop.invariant.2 h)), omega (arith, c.loop.invariant.3)))

pub check_table-shape_of-index : goal.check_table-shape_of-index
check_table-shape_of-index t c = c.loop.invariant.1

pub check_table-returns : goal.check_table-returns
check_table-returns t c = record { index_after = sym (table_lines _ _ _ _ _ _ _ _ _ c.read_title-t.ensures c.take_title-v.ensures (unrefused_number _ c.is_some.ensures c.if-is_some.false) c.if-left-eq0.false ∙ (rw c.first-line.ensures at c.loop.invariant.0) ∙ lines_done _ _ _ _ _ _ _ _ (omega (arith, c.loop.invariant.3, c.loop-test.false))); stays_clean = λ h. c.loop.invariant.2 (clean_title _ _ _ c.take_title-v.ensures h) }
