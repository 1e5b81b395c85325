use Rattle.std.proofs.Common.{length, refl, ◌∙◌}
use Rattle.std.proofs.lemmas.Option.{slice_get_read}
use Rattle.ac_claims_paths.specs.ModelCalls.{pairing}
use Rattle.ac_claims.specs.RemainingPlans.{next_in}
use Rattle.ac_claims.proofs.UpcomingSteps.{at_claim_is}
use Rattle.ac_claims.proofs.upcoming.at_claim.Goals as goal

pub returns : goal.returns
returns c =
    at_claim_is (pairing c.args.programs.now) c.args.claims.now c.args.next c.index-claims-next.result c.next_in.result (slice_get_read c.args.claims.now (length c.args.claims.now) c.args.next.claim c.index-claims-next.result refl c.requires c.index-claims-next.is)
    (c.next_in.ensures ∙ (λ j. next_in (c.in_ok-left.ensures j) (c.in_ok-right.ensures j) c.args.next))
