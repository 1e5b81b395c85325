use Rattle.ac_claims.proofs.FeedSteps.{proof_fed}
use Rattle.ac_claims.proofs.check.feed_proof.Goals as goal

pub returns : goal.returns
returns c =
    proof_fed c.args.proof.now c.as_slice.result.now c.as_slice-2.result.now c.as_slice-3.result.now c.args.stepper.now c.feed_head.new.stepper c.feed_all_claims.new.stepper c.feed_outputs.new.stepper c.feed_all_trees.new.stepper c.as_slice.ensures c.as_slice-2.ensures c.as_slice-3.ensures.value c.in_ok-feed_head.ensures c.in_ok-feed_all_claims.ensures c.in_ok-feed_outputs.ensures c.in_ok-feed_all_trees.ensures
