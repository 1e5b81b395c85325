use Rattle.std.proofs.Common.{◌≡◌, drop}
use Rattle.ac_claims.specs.ProofFaults.{rows_hold}
use Rattle.ac_claims.proofs.head.rows_hold.Given as goal

abbrev pub invariant-loop-row : goal.invariant-loop-row
invariant-loop-row l = rows_hold l.rows l.point ≡ rows_hold (drop l.row-index l.rows) l.point
