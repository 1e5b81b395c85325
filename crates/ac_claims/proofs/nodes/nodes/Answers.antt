use Rattle.std.proofs.Common.{◌≡◌, [], rules, arith}
use Rattle.std.proofs.lemmas.Grind.{common_steps}
use Rattle.ac_claims.proofs.NodeSteps.{node_end, node_less, node_next, node_start}
use Rattle.ac_claims.proofs.nodes.nodes.Goals as goal

pub loop-node-init : goal.loop-node-init
loop-node-init c = node_start c.args.plan c.new-all.result.items c.new-left.result.items c.push.new.self.items c.new-all.ensures.items c.new-left.ensures.items c.in_ok-push.ensures.items

pub loop-node-preserved : goal.loop-node-preserved
loop-node-preserved c =
    node_next c.args.plan.now c.loop-node.all.items c.push-in-Some.new.self.items c.loop-node.left.items c.pop.new.self.items c.put_behind.new.left.items c.pop.result c.in-Some.node c.loop-node.invariant c.pop.ensures.items c.in-Some.is c.in_ok-push-2.ensures.items c.in_ok-put_behind.ensures

pub loop-node-smaller : goal.loop-node-smaller
loop-node-smaller c = node_less c.loop-node.left.items c.pop.new.self.items c.put_behind.new.left.items c.pop.result c.in-Some.node c.pop.ensures.items c.in-Some.is c.in_ok-put_behind.ensures

pub returns : goal.returns
returns c =
    let none_left : c.loop-node.left.items ≡ [] = first_of (search rules, grind (arith, common_steps)) in
    node_end c.args.plan.now c.loop-node.all.items c.loop-node.left.items c.loop-node.invariant none_left
