use Rattle.std.proofs.Common.{◌≡◌, ◌≤◌, ◌+◌, length, drop}
use Rattle.ac_omega_steps.specs.Bounds.{lows}
use Rattle.ac_omega.proofs.ranking.lower_rows.Given as goal

abbrev pub invariant-loop-row : goal.invariant-loop-row
invariant-loop-row l = record {
  value : length (lows l.z l.rows) ≡ l.count + length (lows l.z (drop l.row-index l.rows));
  small : l.count ≤ l.row-index;
}
