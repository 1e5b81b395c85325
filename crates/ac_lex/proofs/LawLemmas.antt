-- The laws, from what determines a step.
use Rattle.ac_lex.specs.UniqueTokens.{HasOneList, HasOneFault, HasNotBoth}
use Rattle.ac_lex.specs.Tokens.{FileStep, FileFault}
use Rattle.ac_lex.proofs.Sequences.{one_sequence, one_first_fault, no_fault}
use Rattle.ac_lex.proofs.FileSteps.{file_determined}

pub one_list : HasOneList
one_list bytes tokens others are is = one_sequence FileStep FileFault file_determined are is

pub one_fault : HasOneFault
one_fault bytes why why' at at' is is' = one_first_fault FileStep FileFault file_determined is is'

pub not_both : HasNotBoth
not_both bytes tokens why at are is = no_fault FileStep FileFault file_determined are is
