use Rattle.ac_flow.proofs.Projections.{Ranged}
use Rattle.ac_flow.proofs.copy_pieces.columns_from.Given as goal

abbrev pub invariant-loop-z : goal.invariant-loop-z
invariant-loop-z l = Ranged l.first l.z l.vars.items
