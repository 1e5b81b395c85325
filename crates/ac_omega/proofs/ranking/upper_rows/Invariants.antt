use Rattle.std.proofs.Common.{◌≡◌, ◌≤◌, ◌+◌, length, drop}
use Rattle.ac_omega_steps.specs.Bounds.{highs}
use Rattle.ac_omega.proofs.ranking.upper_rows.Given as goal

abbrev pub invariant-loop-row : goal.invariant-loop-row
invariant-loop-row l = record {
  value : length (highs l.z l.rows) ≡ l.count + length (highs l.z (drop l.row-index l.rows));
  small : l.count ≤ l.row-index;
}
