-- The top table has all fields.
use Rattle.cmf.specs.Places.{component_places, fields_of}
use borrow.Author.Rules.{rules}
use Rattle.handset.proofs.Filling.{defaults_taken}
use Rattle.handset.proofs.fields.write_defaults.Goals as goal

pub returns : goal.returns
unfolding fields_of component_places
returns c = let e = defaults_taken (fields_of c.args.image.now) _ _ _ c.take_table.ensures.taken in search (rules, e)
