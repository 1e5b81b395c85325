use Rattle.ac_walk.proofs.Terms.{verdicts_tell_terms}
use Rattle.ac_walk.proofs.verdict_laws.verdicts_tell_terms.Goals as goal

pub returns : goal.returns
returns c = verdicts_tell_terms
