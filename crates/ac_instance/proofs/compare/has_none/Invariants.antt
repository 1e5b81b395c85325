use Rattle.std.proofs.Common.{◌≡◌, drop}
use Rattle.ac_instance.specs.Least.{has_none_of}
use Rattle.ac_instance.proofs.compare.has_none.Given as goal

abbrev pub invariant-loop-size : goal.invariant-loop-size
invariant-loop-size l = has_none_of l.sizes ≡ has_none_of (drop l.size-index l.sizes)
