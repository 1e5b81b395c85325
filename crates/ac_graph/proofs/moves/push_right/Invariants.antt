use Rattle.std.proofs.Common.{take}
use Rattle.ac_graph.specs.Reachability.{IsMore, IsRightOf}
use Rattle.ac_graph.proofs.moves.push_right.Given as goal

abbrev pub invariant-loop-at : goal.invariant-loop-at
invariant-loop-at l = IsMore (IsRightOf (take l.at l.edges) l.pair) l.fn.out l.out
