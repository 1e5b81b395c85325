use Rattle.ac_parse_grammar.proofs.StatementAnswers.{one_file}
use Rattle.ac_parse_grammar.proofs.OneFault.{one_fault, not_both_of}
use Rattle.ac_parse_grammar.proofs.laws.trees_are_determined.Goals as goal

pub returns-clause-tree : goal.returns-clause-tree
returns-clause-tree c = one_file

pub returns-clause-fault : goal.returns-clause-fault
returns-clause-fault c = one_fault

pub returns-clause-either : goal.returns-clause-either
returns-clause-either c = not_both_of
