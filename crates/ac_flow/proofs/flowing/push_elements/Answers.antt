use Rattle.std.proofs.Common.{refl, ◌∙◌}
use Rattle.ac_flow.proofs.Overs.{can_read_elements}
use Rattle.ac_flow.proofs.flowing.push_elements.Goals as goal

pub push_flow-requires : goal.push_flow-requires
push_flow-requires c = can_read_elements c.args.m.now _ c.args.o c.args.extents.now c.requires.over c.requires.extents refl (c.as_slice.ensures ∙ c.in-Ok.ensures.made)
