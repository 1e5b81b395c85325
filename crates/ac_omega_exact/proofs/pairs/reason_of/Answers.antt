use Rattle.ac_omega_steps.specs.Bounds.{low_bound, high_bound}
use Rattle.ac_omega_exact.proofs.Left.{exact-made, reason-made}
use Rattle.ac_omega_exact.proofs.pairs.reason_of.Goals as goal

pub returns-clause-exact : goal.returns-clause-exact
returns-clause-exact c = exact-made c.args.z c.args.rows.now (low_bound c.args.z c.args.low.now) (high_bound c.args.z c.args.high.now) _ c.in-Some.left _ c.in-Some.is c.in_ok-left.ensures c.reason_for.ensures.found

pub returns-clause-reason : goal.returns-clause-reason
returns-clause-reason c = reason-made c.args.z c.args.rows.now (low_bound c.args.z c.args.low.now) (high_bound c.args.z c.args.high.now) _ c.in-Some.left _ c.in-Some.is c.in_ok-left.ensures c.reason_for.ensures.reason
