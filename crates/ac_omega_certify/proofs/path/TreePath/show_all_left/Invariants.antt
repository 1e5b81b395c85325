use Rattle.ac_omega_certify.proofs.LeftRows.{LeftHalfway}
use Rattle.ac_omega_certify.proofs.path.TreePath.show_all_left.Given as goal

abbrev pub invariant-loop-i : goal.invariant-loop-i
invariant-loop-i l = LeftHalfway l.initial.self l.self l.names l.rows l.places l.lefts.items l.i
