use Rattle.ac_omega_certify.proofs.ReplacedRows.{ReplacedSoFar}
use Rattle.ac_omega_certify.proofs.path.TreePath.keep_all_replaced.Given as goal

abbrev pub invariant-loop-i : goal.invariant-loop-i
invariant-loop-i l = ReplacedSoFar l.initial.self l.self l.equality.column l.equality.form.now l.equality.place l.i l.rows l.places l.initial.kept.rows.items l.initial.kept.places.items l.kept.rows.items l.kept.places.items
