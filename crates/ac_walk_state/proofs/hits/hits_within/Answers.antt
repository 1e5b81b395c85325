use Rattle.ac_walk_state.proofs.HitNodes.{within_listed}
use Rattle.ac_walk_state.proofs.hits.hits_within.Goals as goal

pub returns : goal.returns
returns c =
    let w = within_listed c.args.limit c.args.plan.now c.in_ok-all.all.items c.as_slice.result.now c.as_slice.ensures.value c.in_ok-all.ensures in
    (λ h. w.0 (c.nodes_hit_within-within.ensures.0 h), λ h. c.nodes_hit_within-within.ensures.1 (w.1 h))
