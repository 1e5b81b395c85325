use Rattle.ac_widen_programs.proofs.Calling.{calls_lead}
use Rattle.ac_widen_programs.proofs.PairPathReads.{reads_lead}
use Rattle.ac_widen_programs.proofs.Surviving.{survivors_are_left, survivors_lead}
use Rattle.ac_widen_programs.proofs.pair_path_laws.steps_lead.Goals as goal

pub returns-clause-calls : goal.returns-clause-calls
returns-clause-calls c = calls_lead

pub returns-clause-reads : goal.returns-clause-reads
returns-clause-reads c = reads_lead

pub returns-clause-survivors : goal.returns-clause-survivors
returns-clause-survivors c = survivors_lead

pub returns-clause-left : goal.returns-clause-left
returns-clause-left c = survivors_are_left
