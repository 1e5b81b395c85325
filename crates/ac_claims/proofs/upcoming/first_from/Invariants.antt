use Rattle.std.proofs.Common.{◌≡◌, drop}
use Rattle.ac_claims_paths.specs.ModelCalls.{pairing}
use Rattle.ac_claims.specs.ProofFaults.{due_from}
use Rattle.ac_claims.proofs.upcoming.first_from.Given as goal

abbrev pub invariant-loop-i : goal.invariant-loop-i
invariant-loop-i l = due_from (pairing l.programs) l.fn.from (drop l.fn.from l.claims) ≡ due_from (pairing l.programs) l.i (drop l.i l.claims)
