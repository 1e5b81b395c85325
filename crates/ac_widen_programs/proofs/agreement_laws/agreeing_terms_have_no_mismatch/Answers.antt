use Rattle.ac_widen_programs.proofs.Agreeing.{agreeing_terms_have_no_mismatch}
use Rattle.ac_widen_programs.proofs.agreement_laws.agreeing_terms_have_no_mismatch.Goals as goal

pub returns : goal.returns
returns c = agreeing_terms_have_no_mismatch
