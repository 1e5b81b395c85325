use Rattle.std.proofs.Common.{◌≡◌, take, false}
use Rattle.std.specs.List.{list_any}
use Rattle.ac_top.specs.Statuses.{is_different}
use Rattle.ac_top.proofs.status.any_different.Given as goal

abbrev pub invariant-loop-verdict : goal.invariant-loop-verdict
invariant-loop-verdict l = list_any is_different (take l.verdict-index l.verdicts) ≡ false
