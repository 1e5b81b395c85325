use Rattle.ac_omega_steps.proofs.GoingBack.{lift-point}
use Rattle.ac_omega_steps.proofs.choose.lift.Goals as goal

pub returns-clause-point : goal.returns-clause-point
returns-clause-point c = lift-point c.args.choice.now c.args.conj.now c.args.point.now c.went_back.result c.requires.legal c.requires.columns c.requires.meets c.went_back.ensures
