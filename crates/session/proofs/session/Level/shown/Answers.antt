-- Each return is the case of the definition that the tests on its path choose.
use mathlib.Core.Path.{sym, ◌∙◌}
use Rattle.laws.proofs.Cases.{if_false}
use Rattle.session.proofs.Stepping.{level_other, level_above, level_below, level_found}
use Rattle.session.proofs.session.Level.shown.Goals as goal
use Rattle.session.proofs.session.Level.shown.Goals.{then-self-table-via-then-self-table, then-self-table-via-else-self-table+then-cursor-first, then-self-table-via-else-self-table+else-cursor-first+then-first-rows_below}

pub returns-then-self-table : goal.returns-then-self-table
returns-then-self-table c =
    elim c.then-self-table.branch [
      | then-self-table-via-then-self-table w ↦ sym (if_false _ _ (level_other _ _ _ c.args.self w.if-self-table.true))
      | then-self-table-via-else-self-table+then-cursor-first w ↦ sym (if_false _ _ (level_above _ _ _ c.args.self w.if-cursor-first.true))
      | then-self-table-via-else-self-table+else-cursor-first+then-first-rows_below w ↦
          sym (if_false _ _ (level_below _ _ _ c.args.self _ w.rows_below.ensures w.if-first-rows_below.true))
    ]

pub returns : goal.returns
returns c = c.reach.ensures ∙ level_found _ _ _ c.args.self _ c.rows_below.ensures c.if-self-table.false c.if-cursor-first.false c.if-first-rows_below.false
