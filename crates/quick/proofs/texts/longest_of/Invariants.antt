-- What is left of the texts makes the whole.
use Rattle.quick.proofs.Pieces.{Filling}
use Rattle.quick.proofs.texts.longest_of.Given as goal

abbrev pub invariant-loop : goal.invariant-loop
invariant-loop l = Filling l.image l.from l.end l.count l.at l.counter l.most
