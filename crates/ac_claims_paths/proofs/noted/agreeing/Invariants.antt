use Rattle.std.proofs.Common.{◌≡◌}
use Rattle.ac_claims_paths.proofs.Notes.{Agree}
use Rattle.ac_claims_paths.proofs.noted.agreeing.Given as goal

abbrev pub invariant-loop-note : goal.invariant-loop-note
invariant-loop-note l = (l.count ≡ l.note-index) × Agree l.noted l.rows l.count
