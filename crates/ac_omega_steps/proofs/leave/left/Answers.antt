use Rattle.ac_omega_steps.proofs.LeftRows.{left_points, after_is}
use Rattle.ac_omega_steps.proofs.leave.left.Goals as goal

pub returns-clause-points : goal.returns-clause-points
returns-clause-points c =
    let exact = after_is c.args.choice.now c.args.conj.now c.in_ok-rows.field-0 c.in-Some.rows c.in_ok-made.made c.in_ok-rows.ensures.normal c.in-Some.is c.in_ok-made.ensures.exact in
    left_points c.args.choice.now c.args.conj.now c.in_ok-made.made c.requires.legal c.requires.made exact
