use Rattle.std.proofs.Common.{◌≡◌, drop}
use Rattle.ac_claims_paths.specs.CopyKills.{ends_before}
use Rattle.ac_claims_paths.proofs.killing.ends_before.Given as goal

abbrev pub invariant-loop-row : goal.invariant-loop-row
invariant-loop-row l = ends_before l.columns l.rows ≡ ends_before l.columns (drop l.row-index l.rows)
