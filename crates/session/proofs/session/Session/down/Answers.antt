-- What the callees ensure, put together.
use Prim.Native.Nat.{◌+◌}
use mathlib.Core.Path.{◌∙◌}
use native.Mathlib.Omega.{arith}
use borrow.Author.Tests.{ltb-true}
use Rattle.cmf.specs.Places.{line_count}
use Rattle.cmf.proofs.Finding.{lines_few, found_none, found_at}
use Rattle.session.proofs.Moving.{down_goes, down_stops}
use Rattle.session.proofs.session.Session.down.Goals as goal

pub overflow_add-cursor-in-Some : goal.overflow_add-cursor-in-Some
overflow_add-cursor-in-Some c = omega (arith, ltb-true (c.args.self.here.cursor + 1) (line_count c.args.image.now c.args.self.here.table.0) (found_at _ c.reach-next.ensures c.in-Some.is).0, lines_few c.args.image.now c.args.self.here.table.0)

pub cursor_on-requires : goal.cursor_on-requires
cursor_on-requires c = omega (arith, ltb-true (c.args.self.here.cursor + 1) (line_count c.args.image.now c.args.self.here.table.0) (found_at _ c.reach-next.ensures c.in-Some.is).0, lines_few c.args.image.now c.args.self.here.table.0)

pub returns-in-Some : goal.returns-in-Some
returns-in-Some c = down_goes _ c.args.self _ (found_at _ c.reach-next.ensures c.in-Some.is).0 (c.taken.ensures ∙ rw c.cursor_on.ensures)

pub returns-in-None : goal.returns-in-None
returns-in-None c = down_stops _ c.args.self _ (found_none _ c.reach-next.ensures c.in-None.is) c.flash.ensures
