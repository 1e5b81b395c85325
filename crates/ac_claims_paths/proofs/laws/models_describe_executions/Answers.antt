use Rattle.ac_claims_paths.proofs.Described.{models_describe}
use Rattle.ac_claims_paths.proofs.laws.models_describe_executions.Goals as goal

pub returns : goal.returns
returns c = models_describe
