use Rattle.ac_poly.proofs.LevelSteps.{Levelled}
use Rattle.ac_poly.proofs.order.levels_of.Given as goal

abbrev pub invariant-loop-k : goal.invariant-loop-k
invariant-loop-k l = Levelled l.i l.j l.first l.second l.text l.made l.done l.k
