use Rattle.std.proofs.Common.{◌≡◌}
use Rattle.ac_claims_plans.specs.Embeddings.{columns_on}
use Rattle.ac_claims_plans.proofs.embedding.Embedding.names.Given as goal

abbrev pub invariant-loop-number : goal.invariant-loop-number
invariant-loop-number l = l.names ≡ columns_on l.self l.number
