use Rattle.std.proofs.Common.{◌≡◌, ◌<◌}
use Rattle.ac_assoc_law.specs.ArrangedPairs.{factorial}
use Rattle.ac_assoc.proofs.orders.factorial.Given as goal

abbrev pub invariant-loop-k : goal.invariant-loop-k
invariant-loop-k l = record { value : l.count ≡ factorial l.k; positive : 0 < l.count }
