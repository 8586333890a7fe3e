-- By whether the table has the place.
use mathlib.Core.Path.{refl, sym}
use lib.ListN.{get_or-eq_default}
use Rattle.laws.proofs.Cases.{if_lt, if_ge}
use Rattle.marker.specs.Table.{set_at}
use Rattle.marker.proofs.table.take_out.Goals as goal

pub returns-then-at-table : goal.returns-then-at-table
unfolding set_at
returns-then-at-table c = record { value = refl; table_after = sym (if_lt _ _ _ _ c.if-at-table.true) }

pub returns : goal.returns
unfolding set_at
returns c = record { value = sym (get_or-eq_default c.args.table.now 0 c.if-at-table.false); table_after = sym (if_ge _ _ _ _ c.if-at-table.false) }
