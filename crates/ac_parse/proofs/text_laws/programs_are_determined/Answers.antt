use Rattle.ac_parse.proofs.Composing.{one_program}
use Rattle.ac_parse.proofs.OneSourceFault.{one_source_fault, not_both_of}
use Rattle.ac_parse.proofs.text_laws.programs_are_determined.Goals as goal

pub returns-clause-program : goal.returns-clause-program
returns-clause-program c = one_program

pub returns-clause-fault : goal.returns-clause-fault
returns-clause-fault c = one_source_fault

pub returns-clause-either : goal.returns-clause-either
returns-clause-either c = not_both_of
