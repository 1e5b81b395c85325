use Rattle.std.proofs.Common.{◌≡◌, drop}
use Rattle.ac_forms.specs.Standing.{all_stand}
use Rattle.ac_claims_paths.specs.RowNotes.{rows_of}
use Rattle.ac_claims_paths.proofs.noted.all_stand.Given as goal

abbrev pub invariant-loop-row : goal.invariant-loop-row
invariant-loop-row l = all_stand (rows_of l.noted) l.wanted ≡ all_stand (rows_of l.noted) (drop l.row-index l.wanted)
