use Rattle.mark.proofs.path.+lines_in.Given as goal

abbrev pub decreases-lines_in : goal.decreases-lines_in
decreases-lines_in l = l.left
