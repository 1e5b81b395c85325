use Rattle.std.proofs.Common.{◌≡◌, drop}
use Rattle.ac_omega_certify.specs.Alternatives.{has_divisibility}
use Rattle.ac_omega.proofs.scan.has_divisibility.Given as goal

abbrev pub invariant-loop-row : goal.invariant-loop-row
invariant-loop-row l = has_divisibility l.z l.rows ≡ has_divisibility l.z (drop l.row-index l.rows)
