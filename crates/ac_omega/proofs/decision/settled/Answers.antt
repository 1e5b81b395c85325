use Rattle.ac_omega.proofs.Finding.{gone-none}
use Rattle.ac_omega.proofs.decision.settled.Goals as goal

pub returns-in-Ok-clause-empty : goal.returns-in-Ok-clause-empty
returns-in-Ok-clause-empty c = gone-none c.args.strategy c.args.budget c.args.conj.now c.in-Ok-Empty.field-0-0 c.in-Ok-Empty.maxima c.requires (rw c.in-Ok-Empty.field-0-is at c.in-Ok-Empty.ensures.exact)
