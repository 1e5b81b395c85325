use Rattle.std.proofs.Common.{Bor, drop}
use Rattle.std.specs.List.{flat_map}
use Rattle.ac_claims.specs.PlanNodes.{node_items}
use Rattle.ac_claims.specs.declared.types.Plan.{Plan}
use Rattle.ac_prooftext.proofs.LineProgress.{Leads}
use Rattle.ac_prooftext.proofs.plan_text.write_nodes.Given as goal

abbrev pub invariant-loop-node : goal.invariant-loop-node
invariant-loop-node l = Leads l.fn.text (flat_map (λ (node : Bor Plan). node_items node.now) l.nodes) l.text (flat_map (λ (node : Bor Plan). node_items node.now) (drop l.node-index l.nodes))
