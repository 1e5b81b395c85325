use Rattle.std.proofs.Common.{drop}
use Rattle.ac_omega_certify.proofs.Shadowings.{UppersSoFar}
use Rattle.ac_omega_certify.proofs.path.TreePath.show_uppers.Given as goal

abbrev pub invariant-loop-i : goal.invariant-loop-i
invariant-loop-i l = UppersSoFar l.bounded.column l.low.form.now l.low.margin l.low.place l.low.own l.bounded.rows.now l.bounded.places.now l.fn.self l.self l.fn.made l.made (drop l.i l.bounded.rows.now)
