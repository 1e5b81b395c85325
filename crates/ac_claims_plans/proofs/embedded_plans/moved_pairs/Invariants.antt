use Rattle.std.proofs.Common.{◌≡◌, take}
use Rattle.ac_claims_plans.specs.Embeddings.{moved_terms}
use Rattle.ac_claims_plans.proofs.embedded_plans.moved_pairs.Given as goal

abbrev pub invariant-loop-pair : goal.invariant-loop-pair
invariant-loop-pair l = l.moved ≡ moved_terms l.embedding (take l.pair-index l.pairs)
