use Rattle.ac_unfold.proofs.claiming.claim_of.Goals as goal

pub returns-clause-none : goal.returns-clause-none
returns-clause-none c = λ e _. c.claim_at.ensures.none e
