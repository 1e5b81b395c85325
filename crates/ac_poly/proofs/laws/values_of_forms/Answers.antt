use Rattle.ac_poly.proofs.Targets.{targets_are_cells, nodes_are_values}
use Rattle.ac_poly.proofs.laws.values_of_forms.Goals as goal

pub returns-clause-target : goal.returns-clause-target
returns-clause-target c = targets_are_cells

pub returns-clause-nodes : goal.returns-clause-nodes
returns-clause-nodes c = nodes_are_values
