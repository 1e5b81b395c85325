use Rattle.ac_widen_programs.proofs.Holding.{outputs_without_mismatch_agree}
use Rattle.ac_widen_programs.proofs.agreement_laws.outputs_without_mismatch_agree.Goals as goal

pub returns : goal.returns
returns c = outputs_without_mismatch_agree
