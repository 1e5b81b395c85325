use Rattle.ac_hull.proofs.Thinnings.{Halfway}
use Rattle.ac_hull.proofs.thinning.thinned.Given as goal

abbrev pub invariant-loop-at : goal.invariant-loop-at
invariant-loop-at l = Halfway l.points l.rows l.kept l.at
