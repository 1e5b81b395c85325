use Rattle.ac_poly.proofs.Columns.{has_columns, has_kinds}
use Rattle.ac_poly.proofs.Dimensions.{cells_have_dimensions}
use Rattle.ac_poly.proofs.Elements.{has_elements}
use Rattle.ac_poly.proofs.Models.{has_models}
use Rattle.ac_poly.proofs.PiecesApart.{pieces_are_apart}
use Rattle.ac_poly.proofs.Whole.{if_made, has_instances, has_cells, has_nodes, has_quotients, has_order, has_context, has_extents}
use Rattle.ac_poly.proofs.program.lower.Goals as goal

pub returns-clause-instances : goal.returns-clause-instances
returns-clause-instances c = if_made c.lowered_program.result _ _ _ _ c.lowered_program.ensures (has_instances c.args.p.now c.args.context.now c.requires.program)

pub returns-clause-cells : goal.returns-clause-cells
returns-clause-cells c = if_made c.lowered_program.result _ _ _ _ c.lowered_program.ensures (has_cells c.args.p.now c.args.context.now c.requires.program)

pub returns-clause-nodes : goal.returns-clause-nodes
returns-clause-nodes c = if_made c.lowered_program.result _ _ _ _ c.lowered_program.ensures (has_nodes c.args.p.now c.args.context.now c.requires.program)

pub returns-clause-quotients : goal.returns-clause-quotients
returns-clause-quotients c = if_made c.lowered_program.result _ _ _ _ c.lowered_program.ensures (has_quotients c.args.p.now c.args.context.now c.requires.program)

pub returns-clause-order : goal.returns-clause-order
returns-clause-order c = if_made c.lowered_program.result _ _ _ _ c.lowered_program.ensures (has_order c.args.p.now c.args.context.now c.requires.program)

pub returns-clause-context : goal.returns-clause-context
returns-clause-context c = if_made c.lowered_program.result _ _ _ _ c.lowered_program.ensures (has_context c.args.p.now c.args.context.now c.requires.context)

pub returns-clause-extents : goal.returns-clause-extents
returns-clause-extents c = if_made c.lowered_program.result _ _ _ _ c.lowered_program.ensures (has_extents c.args.p.now c.args.context.now c.requires.program)

pub returns-clause-models : goal.returns-clause-models
returns-clause-models c = if_made c.lowered_program.result _ _ _ _ c.lowered_program.ensures (has_models c.args.p.now c.args.context.now c.requires.program)

pub returns-clause-apart : goal.returns-clause-apart
returns-clause-apart c = if_made c.lowered_program.result _ _ _ _ c.lowered_program.ensures (pieces_are_apart c.args.p.now c.args.context.now)

pub returns-clause-kinds : goal.returns-clause-kinds
returns-clause-kinds c = if_made c.lowered_program.result _ _ _ _ c.lowered_program.ensures (has_kinds c.args.p.now c.args.context.now)

pub returns-clause-columns : goal.returns-clause-columns
returns-clause-columns c = if_made c.lowered_program.result _ _ _ _ c.lowered_program.ensures (has_columns c.args.p.now c.args.context.now c.requires.program c.requires.context)

pub returns-clause-dimensions : goal.returns-clause-dimensions
returns-clause-dimensions c h = if_made c.lowered_program.result _ _ _ _ c.lowered_program.ensures (cells_have_dimensions c.args.p.now c.args.context.now h)

pub returns-clause-elements : goal.returns-clause-elements
returns-clause-elements c = if_made c.lowered_program.result _ _ _ _ c.lowered_program.ensures (has_elements c.args.p.now c.args.context.now c.requires.program)
