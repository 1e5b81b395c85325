use Rattle.ac_graph.specs.ProgramOutlines.{called}
use Rattle.ac_graph.specs.Reachability.{IsMore, IsKeptOf}
use Rattle.ac_graph.proofs.moves.push_kept.Given as goal

abbrev pub invariant-loop-k : goal.invariant-loop-k
invariant-loop-k l = IsMore (IsKeptOf (called l.left) (called l.right) l.k) l.fn.out l.out
