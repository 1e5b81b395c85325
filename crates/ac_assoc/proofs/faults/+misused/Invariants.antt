use Rattle.std.proofs.Common.{◌≡◌, drop}
use Rattle.ac_assoc.specs.ValueSequences.{misused_among}
use Rattle.ac_assoc.proofs.faults.+misused.Given as goal

abbrev pub invariant-misused_among-loop-value : goal.invariant-misused_among-loop-value
invariant-misused_among-loop-value l = misused_among l.names l.values ≡ misused_among l.names (drop l.value-index l.values)
