-- The loop: the rows that are left, written onto the picture as it is, are all of them written onto the picture as it was;
-- the lines are counted up to this one, and the cursor line's place and mark are known once it is passed.
use Prim.Native.Nat.{◌+◌, ◌-◌, suc}
use mathlib.Core.Path.{◌≡◌, refl, sym, ap, ◌∙◌}
use native.Mathlib.Omega.{arith}
use lib.ListN.{length}
use Rattle.picture.specs.Rows.{rows_below}
use Rattle.picture.proofs.Filling.{length_row_at, rows_sum, rows_less, rows_turn, rows_done, lent_row}
use Rattle.picture.proofs.Lines.{mark_turn}
use Rattle.picture.proofs.Knowing.{row_known, line_next, known_turn, cursor_turn}
use Rattle.laws.proofs.Overwriting.{length_over}
use Rattle.picture.proofs.picture.put_rows.Goals as goal

pub loop-init : goal.loop-init
loop-init c = (refl, rows_sum _ _ c.requires.1 ∙ sym c.requires.2, refl, c.known_to-top.ensures.1, c.known_to-top.ensures.0, λ a b. absurd (omega arith), omega arith, tt)

pub loop-preserved : goal.loop-preserved
loop-preserved c =
    let n = c.args.session.now.lines - c.loop.counter in
    let m = c.args.session.now.lines - (c.loop.counter + 1) in
    let z : n ≡ suc m = omega arith in
    let q = rows_less c.args.session.now.columns n m c.loop.at _ z c.loop.invariant.1 in
    let b = lent_row c.loop.picture c.put_row-mark.new.row c.loop.at c.args.session.now.columns (ap length c.put_row-mark.ensures.row_after ∙ length_row_at _ _ c.args.session.now _ c.loop.k c.loop.p c.requires.0) (omega (arith, q, c.loop.invariant.0)) in (
      ap length b ∙ length_over c.loop.picture c.loop.at _ ∙ c.loop.invariant.0,
      q,
      rows_turn _ _ c.args.session.now _ n m c.loop.k c.loop.p c.loop.at _ c.loop.picture _ c.read_head-h.result c.requires.0 z c.read_head-h.ensures (c.put_row-mark.ensures.row_after ∙ row_known _ _ c.args.session.now _ _ c.loop.k c.loop.p c.loop.invariant.4) b ∙ c.loop.invariant.2,
      line_next _ c.args.session.now.here.table.0 c.loop.k c.loop.p c.read_head-h.result c.loop.invariant.3 c.read_head-h.ensures,
      known_turn _ c.args.session.now.here.table.0 c.loop.k c.loop.p c.read_head-h.result c.loop.invariant.3 c.read_head-h.ensures c.loop.count _ c.loop.invariant.4 c.known_next-count.ensures,
      cursor_turn _ c.args.session.now.here.table.0 c.loop.k _ _ c.loop.p c.loop.cursor _ c.loop.invariant.5 c.chosen-cursor.ensures c.loop.invariant.3,
      omega arith,
      rw c.chosen-marked.ensures (mark_turn _ c.args.session.now.here c.loop.k c.loop.p c.put_row-mark.result c.loop.marked c.loop.invariant.3 c.put_row-mark.ensures.value c.loop.invariant.7),
    )

pub returns : goal.returns
unfolding rows_below
returns c = record {
  cursor_value = c.asked.ensures;
  picture_after = sym (rows_done _ _ c.args.session.now _ (c.args.session.now.lines - c.loop.counter) c.loop.k c.loop.p c.loop.at c.loop.picture (omega arith)) ∙ c.loop.invariant.2 ∙ rw c.known_to-top.ensures.1;
}
