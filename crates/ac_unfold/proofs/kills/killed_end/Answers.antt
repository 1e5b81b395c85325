use Rattle.ac_unfold.proofs.kills.killed_end.Goals as goal

pub returns-clause-end : goal.returns-clause-end
returns-clause-end c = record { plan = c.in_ok-plan.plan; kind = c.in_ok-plan.ensures; is = c.in_ok-push.ensures.items }
