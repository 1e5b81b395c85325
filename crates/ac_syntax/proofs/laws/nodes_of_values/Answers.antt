use Rattle.ac_syntax.proofs.NodeLemmas.{node_root, argument_node}
use Rattle.ac_syntax.proofs.ValueCases.{values_have_three_cases}
use Rattle.ac_syntax.proofs.laws.nodes_of_values.Goals as goal

pub returns-clause-cases : goal.returns-clause-cases
returns-clause-cases c = values_have_three_cases

pub returns-clause-root : goal.returns-clause-root
returns-clause-root c = node_root

pub returns-clause-arguments : goal.returns-clause-arguments
returns-clause-arguments c = argument_node
