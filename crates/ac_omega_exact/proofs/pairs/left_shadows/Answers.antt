use Rattle.ac_omega_steps.specs.Bounds.{low_bound, high_bound}
use Rattle.ac_omega_exact.proofs.Left.{left-made}
use Rattle.ac_omega_exact.proofs.pairs.left_shadows.Goals as goal

pub returns : goal.returns
returns c = left-made (low_bound c.args.z c.args.low.now) (high_bound c.args.z c.args.high.now) _ c.in-Some.shadows _ c.in-Some.is c.in_ok-shadows.ensures c.in_ok-made.ensures
