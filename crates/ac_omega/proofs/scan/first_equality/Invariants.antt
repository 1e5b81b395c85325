use Rattle.std.proofs.Common.{◌≡◌, drop}
use Rattle.ac_omega_certify.specs.Alternatives.{first_equality}
use Rattle.ac_omega.proofs.scan.first_equality.Given as goal

abbrev pub invariant-loop-i : goal.invariant-loop-i
invariant-loop-i l = first_equality l.z 0 l.rows ≡ first_equality l.z l.i (drop l.i l.rows)
