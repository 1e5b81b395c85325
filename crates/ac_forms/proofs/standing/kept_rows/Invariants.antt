use Rattle.ac_forms.proofs.Standings.{KeptSoFar}
use Rattle.ac_forms.proofs.standing.kept_rows.Given as goal

abbrev pub invariant-loop-row : goal.invariant-loop-row
invariant-loop-row l = KeptSoFar l.rows l.kept l.row-index
