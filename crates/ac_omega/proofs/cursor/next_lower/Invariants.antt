use Rattle.std.proofs.Common.{◌≡◌, drop}
use Rattle.ac_omega_certify.specs.Alternatives.{splinters}
use Rattle.ac_omega.proofs.cursor.next_lower.Given as goal

abbrev pub invariant-loop-i : goal.invariant-loop-i
invariant-loop-i l = splinters l.strategy l.z l.rows l.start (drop l.start l.rows) ≡ splinters l.strategy l.z l.rows l.i (drop l.i l.rows)
