use Rattle.std.proofs.Common.{take}
use Rattle.ac_graph.specs.Reachability.{IsMore, IsLeftOf}
use Rattle.ac_graph.proofs.moves.push_left.Given as goal

abbrev pub invariant-loop-at : goal.invariant-loop-at
invariant-loop-at l = IsMore (IsLeftOf (take l.at l.edges) l.pair) l.fn.out l.out
