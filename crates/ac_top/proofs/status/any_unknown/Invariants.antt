use Rattle.std.proofs.Common.{◌≡◌, take, false}
use Rattle.std.specs.List.{list_any}
use Rattle.ac_top.specs.Statuses.{is_unknown}
use Rattle.ac_top.proofs.status.any_unknown.Given as goal

abbrev pub invariant-loop-verdict : goal.invariant-loop-verdict
invariant-loop-verdict l = list_any is_unknown (take l.verdict-index l.verdicts) ≡ false
