use Rattle.std.proofs.Common.{take, []}
use Rattle.ac_graph.specs.Reachability.{IsMore, IsEdgeAmong}
use Rattle.ac_graph.proofs.edges.edges.Given as goal

abbrev pub invariant-loop-read : goal.invariant-loop-read
invariant-loop-read l = IsMore (IsEdgeAmong (take l.read-index l.reads)) [] l.out
