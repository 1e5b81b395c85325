use Rattle.std.proofs.Common.{drop}
use Rattle.std.specs.List.{flat_map}
use Rattle.ac_claims.specs.CheckFeed.{of_row}
use Rattle.ac_prooftext.proofs.LineProgress.{Leads}
use Rattle.ac_prooftext.proofs.write.write_rows.Given as goal

abbrev pub invariant-loop-row : goal.invariant-loop-row
invariant-loop-row l = Leads l.fn.text (flat_map of_row l.rows) l.text (flat_map of_row (drop l.row-index l.rows))
