use Rattle.ac_claims_paths.proofs.Described.{models_have_moduli}
use Rattle.ac_claims_paths.proofs.laws.models_have_moduli.Goals as goal

pub returns : goal.returns
returns c = models_have_moduli
