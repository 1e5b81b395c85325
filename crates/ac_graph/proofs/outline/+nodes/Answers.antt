use Rattle.std.proofs.Common.{rules, ◌≡◌, ◌+◌, length}
use Rattle.ac_graph.proofs.OutlineSteps.{node_step, call_made}
use Rattle.ac_graph.proofs.outline.+nodes.Goals as goal

pub add_all_nodes-loop-value-preserved : goal.add_all_nodes-loop-value-preserved
add_all_nodes-loop-value-preserved t c =
    node_step _ _ _ _ _ c.value-item.result c.loop-value.invariant (search rules) c.value-item.is c.in_ok-add_nodes.ensures

pub add_nodes-returns-in_ok-add_all_nodes-in-Call : goal.add_nodes-returns-in_ok-add_all_nodes-in-Call
add_nodes-returns-in_ok-add_all_nodes-in-Call t c =
    let e : c.in_ok-first-in-Call.first ≡ length c.args.out.now + 1 = search rules in
    call_made _ c.in-Call.symbol c.in_ok-symbol-in-Call.symbol c.in-Call.args _ _ c.in-Call.place _ _ _ _ _ c.in-Call.is e c.as_slice.ensures c.in_ok-roots-in-Call.ensures c.in_ok-symbol-in-Call.ensures
    c.in_ok-push-in-Call.ensures.ok c.as_slice-in-Call.ensures c.in_ok-add_all_nodes-in-Call.ensures
