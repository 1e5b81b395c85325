use Rattle.ac_omega_certify.proofs.FreeRows.{FreeSoFar}
use Rattle.ac_omega_certify.proofs.by_equality.free_rows.Given as goal

abbrev pub invariant-loop-i : goal.invariant-loop-i
invariant-loop-i l = FreeSoFar l.z l.i l.rows l.places l.kept.rows.items l.kept.places.items
