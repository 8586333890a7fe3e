-- The working copy, the sheet's value, or the string.
use borrow.Author.Tests.{not-true, not-false}
use Rattle.picture.proofs.Lines.{shown_visit, shown_field, shown_string}
use Rattle.picture.proofs.component.put_component.Goals as goal

pub returns-then-not-c : goal.returns-then-not-c
returns-then-not-c c = shown_string _ _ c.args.session.now _ c.args.c _ (not-true c.args.c.fielded c.if-not-c.true) c.string_bytes.ensures c.put_all.ensures

pub returns-then-visits : goal.returns-then-visits
returns-then-visits c = shown_visit _ _ c.args.session.now _ c.args.c _ (not-false c.args.c.fielded c.if-not-c.false) c.visits.ensures c.if-visits.true c.put_cells.ensures

pub returns : goal.returns
returns c = shown_field _ _ c.args.session.now _ c.args.c _ (not-false c.args.c.fielded c.if-not-c.false) c.visits.ensures c.if-visits.false c.put_field.ensures
