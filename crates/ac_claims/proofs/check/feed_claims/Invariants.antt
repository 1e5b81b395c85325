use Rattle.std.proofs.Common.{drop}
use Rattle.std.specs.List.{flat_map}
use Rattle.ac_claims.specs.CheckFeed.{Reaches, of_claim}
use Rattle.ac_claims.proofs.check.feed_claims.Given as goal

abbrev pub invariant-loop-claim : goal.invariant-loop-claim
invariant-loop-claim l = Reaches l.fn.stepper (flat_map of_claim l.claims) l.stepper (flat_map of_claim (drop l.claim-index l.claims))
