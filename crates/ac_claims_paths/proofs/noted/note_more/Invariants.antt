use Rattle.ac_claims_paths.proofs.Notes.{NotedSoFar}
use Rattle.ac_claims_paths.proofs.noted.note_more.Given as goal

abbrev pub invariant-loop-at : goal.invariant-loop-at
invariant-loop-at l = NotedSoFar l.noted.items l.rows l.at
