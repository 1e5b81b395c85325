use Rattle.ac_forms.proofs.RowTests.{MadeHalfway}
use Rattle.ac_forms.proofs.conj.Conj.is_well_made.Given as goal

abbrev pub invariant-loop-row : goal.invariant-loop-row
invariant-loop-row l = MadeHalfway l.self.columns l.row-items l.row-index
