-- A line is head, components and submenu; the lines that are left, done to a state that has come as far, are the whole. The depth left falls.
use mathlib.Core.Path.{◌≡◌, ◌∙◌}
use Rattle.cmf.proofs.Numbers.{unrefused_number}
use Rattle.quick.proofs.AcceptingTables.{table_reaches}
use Rattle.quick.proofs.Positions.{along_head, leaves_plain, leaves_deep, lines_more, lines_last}
use native.Mathlib.Omega.{arith}
use Prim.Native.Nat.{suc, ◌+◌, ◌-◌, ◌<◌, ◌≤◌}
use Rattle.quick.proofs.accept.+accept_submenu_accept_table.Goals as goal

pub accept_submenu-returns-then-image-line-eq1 : goal.accept_submenu-returns-then-image-line-eq1
accept_submenu-returns-then-image-line-eq1 t c = rw c.past.ensures (leaves_deep _ _ c.if-image-line-eq1.true (rw c.submenu_of.ensures at c.in_ok-t.ensures))

pub accept_submenu-returns : goal.accept_submenu-returns
accept_submenu-returns t c = leaves_plain _ _ (omega (arith, c.if-image-line-eq1.false))

pub accept_table-returns-then-image-line-eq1 : goal.accept_table-returns-then-image-line-eq1
accept_table-returns-then-image-line-eq1 t c =
    let d : c.args.left ≡ suc (c.args.left - 1) = omega (arith, c.if-left-eq0.false) in
    table_reaches _ _ _ d c.read_title-title.ensures (unrefused_number _ c.is_some.ensures c.if-is_some.false) c.past-v.ensures
    (lines_last _ _ c.in_ok-s.ensures.0 (c.in_ok-s.ensures.1.carry _ _ _ _ (along_head _ _ c.headed-head.ensures c.loop-next-test.true c.in_ok-end.ensures (rw c.first-next.ensures at c.loop-next.invariant.0.0))) c.in_ok-v.ensures c.if-image-line-eq1.true)

pub accept_table-overflow_add-next : goal.accept_table-overflow_add-next
accept_table-overflow_add-next t c = omega (arith, (c.in_ok-s.ensures.1.carry _ _ _ _ (along_head _ _ c.headed-head.ensures c.loop-next-test.true c.in_ok-end.ensures c.loop-next.invariant.0.0)).few)

pub accept_table-loop-next-smaller : goal.accept_table-loop-next-smaller
accept_table-loop-next-smaller t c = let b : c.loop-next.next.number < 99 = c.loop-next-test.true in let k : c.loop-next.next.number ≤ c.in_ok-s.s.n = rw c.headed-head.ensures at c.in_ok-s.ensures.1.counted in let l : 99 - (c.in_ok-s.s.n + 1) < 99 - c.loop-next.next.number = omega arith in l

pub accept_table-loop-next-preserved : goal.accept_table-loop-next-preserved
accept_table-loop-next-preserved t c = (
  (
    rw c.next_of.ensures.0
        (lines_more _ _ c.in_ok-s.ensures.0 (c.in_ok-s.ensures.1.carry _ _ _ _ (along_head _ _ c.headed-head.ensures c.loop-next-test.true c.in_ok-end.ensures c.loop-next.invariant.0.0)) c.in_ok-v.ensures (omega (arith, c.if-image-line-eq1.false))),
    c.accept_submenu.auto.marks ∙ c.pass_lines.auto.marks ∙ c.loop-next.invariant.0.1,
  ),
  c.next_of.ensures.1,
)
