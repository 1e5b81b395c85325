use Rattle.ac_cert_short.specs.Drafts.{draft_nodes}
use Rattle.ac_cert_short.proofs.Shapes.{step_gone}
use Rattle.ac_cert_short.proofs.drafting.with_step.Goals as goal

pub returns-clause-drafted : goal.returns-clause-drafted
returns-clause-drafted c = λ old p l d.
    step_gone old c.args.uses.now.items c.close_step.new.uses.items c.args.first p (draft_nodes c.args.draft) (draft_nodes c.in_ok-made.made) c.in_ok-made.ensures c.close_step.ensures.long c.close_step.ensures.rest (c.close_step.ensures.left c.if-close_step.false) l d
