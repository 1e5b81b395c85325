use Rattle.std.proofs.Common.{length, ◌-◌}
use Rattle.ac_poly.proofs.Commons.{Shared}
use Rattle.ac_poly.proofs.order.common.Given as goal

abbrev pub decreases-loop-k : goal.decreases-loop-k
decreases-loop-k l = length l.first - l.k

abbrev pub invariant-loop-k : goal.invariant-loop-k
invariant-loop-k l = Shared l.first l.second l.k
