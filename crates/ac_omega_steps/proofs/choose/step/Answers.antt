use Rattle.ac_omega_steps.proofs.GoingBack.{step-lifts}
use Rattle.ac_omega_steps.proofs.choose.step.Goals as goal

pub returns-clause-lifts : goal.returns-clause-lifts
returns-clause-lifts c = step-lifts c.args.choice.now c.args.conj.now c.taken.result c.taken.ensures.exact c.taken.ensures.points
