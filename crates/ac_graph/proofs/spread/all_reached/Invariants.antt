use Rattle.ac_graph.specs.PairMoves.{Dependences}
use Rattle.ac_graph.specs.ProgramOutlines.{AreEdgesOf}
use Rattle.ac_graph.specs.Reachability.{IsReaching}
use Rattle.ac_graph.proofs.spread.all_reached.Given as goal

abbrev pub invariant-loop-at : goal.invariant-loop-at
invariant-loop-at l = (d : Dependences) → AreEdgesOf d l.edges → IsReaching d l.fn.starts l.pairs l.next l.at
