use Rattle.ac_flow.proofs.Overs.{can_read}
use Rattle.ac_flow.proofs.flowing.push_node.Goals as goal

pub push_flow-requires : goal.push_flow-requires
push_flow-requires c = can_read c.args.m.now _ c.args.assignment.now.number c.args.assignment.now.stmt.now c.requires.over c.requires.stmt c.width.ensures c.as_slice.ensures
