use Rattle.std.proofs.Common.{◌≡◌, ◌++◌, length, vec_len}
use Rattle.ac_assoc_law.specs.ArrangedPairs.{permuted}
use Rattle.ac_assoc.proofs.orders.permute.Given as goal

abbrev pub invariant-loop-rest : goal.invariant-loop-rest
invariant-loop-rest l = permuted (length l.fn.values.items) l.number l.fn.values.items ≡ l.made.items ++ permuted (length l.rest.items) l.left l.rest.items

abbrev pub decreases-loop-rest : goal.decreases-loop-rest
decreases-loop-rest l = vec_len l.rest
