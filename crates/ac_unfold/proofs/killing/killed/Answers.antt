use Rattle.std.proofs.Common.{map, ap, ◌∙◌}
use Rattle.ac_flow.specs.KillAcceptance.{behind}
use Rattle.ac_unfold.proofs.Stops.{is_killed}
use Rattle.ac_unfold.proofs.killing.killed.Goals as goal

pub returns : goal.returns
returns c =
    let n = c.args.node.now in
    is_killed c.args.search.now n c.args.kill.now c.in_ok-own.own c.in_ok-moved_choices.field-0 c.plan_of.result c.in_ok-own.ensures (c.in_ok-moved_choices.ensures ∙ ap (map (behind c.in_ok-own.own n.embedding.next_column)) c.as_slice.ensures) c.plan_of.ensures.steps c.plan_of.ensures.next
