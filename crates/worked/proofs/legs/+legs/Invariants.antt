use Rattle.worked.proofs.legs.+legs.Given as goal

abbrev pub decreases-legs : goal.decreases-legs
decreases-legs g l = l.most
