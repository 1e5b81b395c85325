use Rattle.std.proofs.Common.{drop}
use Rattle.std.specs.List.{flat_map}
use Rattle.ac_claims.specs.CheckFeed.{of_output}
use Rattle.ac_prooftext.proofs.LineProgress.{Leads}
use Rattle.ac_prooftext.proofs.write.write_outputs.Given as goal

abbrev pub invariant-loop-output : goal.invariant-loop-output
invariant-loop-output l = Leads l.fn.text (flat_map of_output l.outputs) l.text (flat_map of_output (drop l.output-index l.outputs))
