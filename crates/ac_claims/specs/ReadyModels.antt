-- What the models of a pair must have for a check.
use Rattle.ac_forms.specs.Rows.{AreRowsOver}
use Rattle.ac_claims_paths.specs.WellFormedPaths.{HasModuli}
use Rattle.ac_claims_paths.specs.declared.path.Programs.{Programs}

-- each modulus is at least 1, and the context is over the parameters
pub record AreReady (programs : Programs) : Type 0 where
  pub left : HasModuli programs.left.now
  pub right : HasModuli programs.right.now
  pub context : AreRowsOver programs.left.now.params programs.left.now.context
