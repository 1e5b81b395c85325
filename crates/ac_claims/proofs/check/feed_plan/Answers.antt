use Rattle.std.proofs.Common.{Bor}
use Rattle.std.specs.List.{flat_map}
use Rattle.ac_claims.specs.PlanNodes.{node_items}
use Rattle.ac_claims.specs.ProofMachine.{items_of}
use Rattle.ac_claims.specs.declared.types.Plan.{Plan}
use Rattle.ac_claims.proofs.FeedSteps.{feeds_as}
use Rattle.ac_claims.proofs.NodeSteps.{lines_of_listed}
use Rattle.ac_claims.proofs.check.feed_plan.Goals as goal

pub returns : goal.returns
returns c =
    feeds_as (flat_map (λ (node : Bor Plan). node_items node.now) c.as_slice.result.now) (items_of c.args.plan.now) c.args.stepper.now c.feed_nodes.new.stepper (lines_of_listed c.args.plan.now c.in_ok-all.all.items c.as_slice.result.now c.as_slice.ensures.value c.in_ok-all.ensures) c.in_ok-feed_nodes.ensures
