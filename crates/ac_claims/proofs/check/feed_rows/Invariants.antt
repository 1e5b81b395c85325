use Rattle.std.proofs.Common.{drop}
use Rattle.std.specs.List.{flat_map}
use Rattle.ac_claims.specs.CheckFeed.{Reaches, of_row}
use Rattle.ac_claims.proofs.check.feed_rows.Given as goal

abbrev pub invariant-loop-row : goal.invariant-loop-row
invariant-loop-row l = Reaches l.fn.stepper (flat_map of_row l.rows) l.stepper (flat_map of_row (drop l.row-index l.rows))
