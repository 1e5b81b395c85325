-- What plans are made for.
use Rattle.ac_claims_paths.specs.WellFormedPaths.{HasModuli}
use Rattle.ac_flow.specs.Readers.{readers, AreFlows}
use Rattle.ac_unfold.specs.declared.types.ProgramFlows.{ProgramFlows}

-- each modulus of both models is at least 1, and the flows are theirs
pub record IsSettled (s : ProgramFlows) : Type 0 where
  pub left : HasModuli s.programs.left.now
  pub right : HasModuli s.programs.right.now
  pub left_flow : AreFlows s.programs.left.now (readers s.programs.left.now) s.left_flow.now.reads
  pub right_flow : AreFlows s.programs.right.now (readers s.programs.right.now) s.right_flow.now.reads
