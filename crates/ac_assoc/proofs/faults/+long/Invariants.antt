use Rattle.std.proofs.Common.{◌≡◌, drop}
use Rattle.ac_assoc.specs.ValueSequences.{long_among}
use Rattle.ac_assoc.proofs.faults.+long.Given as goal

abbrev pub invariant-long_among-loop-value : goal.invariant-long_among-loop-value
invariant-long_among-loop-value l = long_among l.names l.parent l.values ≡ long_among l.names l.parent (drop l.value-index l.values)
