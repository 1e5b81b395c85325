use Rattle.std.proofs.Common.{refl, ap, ◌∙◌}
use Rattle.ac_syntax.specs.declared.tree.Position.TheVariants.{Output}
use Rattle.ac_walk_state.specs.Elements.{equal_columns}
use Rattle.ac_walk_state.proofs.Outputs.{is_element_claim}
use Rattle.ac_walk_state.proofs.elements.output_claim.Goals as goal

pub returns : goal.returns
returns c = λ pair are among.
    is_element_claim pair c.args.programs.now c.args.array (record { left = Output c.args.array; right = Output c.args.array; rows = c.in_ok-rows.rows }) refl refl (c.in_ok-rows.ensures ∙ ap (equal_columns c.args.programs.now.left.now.params) c.dimensions.ensures) are among
