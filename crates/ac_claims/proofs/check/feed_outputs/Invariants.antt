use Rattle.std.proofs.Common.{drop}
use Rattle.std.specs.List.{flat_map}
use Rattle.ac_claims.specs.CheckFeed.{Reaches, of_output}
use Rattle.ac_claims.proofs.check.feed_outputs.Given as goal

abbrev pub invariant-loop-output : goal.invariant-loop-output
invariant-loop-output l = Reaches l.fn.stepper (flat_map of_output l.outputs) l.stepper (flat_map of_output (drop l.output-index l.outputs))
