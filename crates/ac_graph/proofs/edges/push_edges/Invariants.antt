use Rattle.std.proofs.Common.{take}
use Rattle.ac_graph.specs.Reachability.{IsMore, IsEdgeOf}
use Rattle.ac_graph.proofs.edges.push_edges.Given as goal

abbrev pub invariant-loop-case : goal.invariant-loop-case
invariant-loop-case l = IsMore (IsEdgeOf l.position (take l.case-index l.cases)) l.fn.out l.out
