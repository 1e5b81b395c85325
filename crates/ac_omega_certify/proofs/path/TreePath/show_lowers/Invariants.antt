use Rattle.std.proofs.Common.{drop}
use Rattle.ac_omega_certify.proofs.Shadowings.{LowersSoFar}
use Rattle.ac_omega_certify.proofs.path.TreePath.show_lowers.Given as goal

abbrev pub invariant-loop-i : goal.invariant-loop-i
invariant-loop-i l = LowersSoFar l.bounded.column l.bounded.rows.now l.bounded.places.now l.counts l.raised l.fn.self l.self l.fn.made l.made l.used (drop l.i l.bounded.rows.now) (drop l.i l.counts)
