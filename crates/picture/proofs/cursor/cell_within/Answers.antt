-- Each kind has its case.
use native.Mathlib.Omega.{arith}
use Rattle.std.proofs.Common.{inl, inr}
use Rattle.picture.specs.Cursor.{cell_within}
use Rattle.picture.proofs.Counting.{year_short, part_near}
use borrow.Author.Rules.{rules}
use Rattle.picture.proofs.cursor.cell_within.Goals as goal

pub date_part-requires : goal.date_part-requires
date_part-requires c = (rw c.year_cells.ensures (year_short _), search rules)

pub returns-in-Integer : goal.returns-in-Integer
unfolding cell_within
returns-in-Integer c = (elim c.in-Integer.is [ inl p ↦ simp p.1 | inr p ↦ simp p.1 ], omega arith)

pub returns-in-Counter : goal.returns-in-Counter
unfolding cell_within
returns-in-Counter c = (simp (c.in-Counter.is, c.saturating_sub.ensures), omega arith)

pub returns-in-Time : goal.returns-in-Time
unfolding cell_within
returns-in-Time c = (simp c.in-Time.is, omega arith)

pub returns-in-Date : goal.returns-in-Date
unfolding cell_within
returns-in-Date c = (simp (c.in-Date.is, c.date_part.ensures, c.year_cells.ensures), omega (arith, c.date_part.ensures, part_near c.year_cells.result c.args.at (rw c.year_cells.ensures (year_short _)) (omega arith)))

pub returns-in-Option : goal.returns-in-Option
unfolding cell_within
returns-in-Option c = (simp c.in-Option.is, omega arith)

pub returns-in-Trigger : goal.returns-in-Trigger
unfolding cell_within
returns-in-Trigger c = (simp c.in-Trigger.is, omega arith)
