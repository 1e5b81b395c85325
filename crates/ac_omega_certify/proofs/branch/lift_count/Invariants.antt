use Rattle.std.proofs.Common.{◌≡◌, ◌≤◌, take}
use Rattle.ac_omega_certify.specs.ChoiceBranches.{lift_count}
use Rattle.ac_omega_certify.proofs.branch.lift_count.Given as goal

abbrev pub invariant-loop-count : goal.invariant-loop-count
invariant-loop-count l = record {
  so_far : l.lifted ≡ lift_count (take l.count-index l.counts);
  few : l.lifted ≤ l.count-index;
}
