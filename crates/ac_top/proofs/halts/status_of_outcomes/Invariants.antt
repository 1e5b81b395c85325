use Rattle.std.proofs.Common.{◌≡◌, take, false}
use Rattle.std.specs.List.{list_any}
use Rattle.ac_top.specs.InstanceReports.{is_different}
use Rattle.ac_top.proofs.halts.status_of_outcomes.Given as goal

abbrev pub invariant-loop-outcome : goal.invariant-loop-outcome
invariant-loop-outcome l = list_any is_different (take l.outcome-index l.outcomes) ≡ false
