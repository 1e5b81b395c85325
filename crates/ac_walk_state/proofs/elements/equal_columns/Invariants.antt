use Rattle.std.proofs.Common.{◌≡◌, map}
use Rattle.std.specs.List.{range_with_len}
use Rattle.ac_forms.specs.declared.row.Row.TheVariants.{Eq}
use Rattle.ac_walk_state.specs.Elements.{column_less}
use Rattle.ac_walk_state.proofs.elements.equal_columns.Given as goal

abbrev pub invariant-loop-dimension : goal.invariant-loop-dimension
invariant-loop-dimension l = l.rows ≡ map (λ k. Eq (column_less k l.count)) (range_with_len l.first l.dimension)
