use Rattle.std.proofs.Common.{rules}
use Rattle.ac_omega_steps.specs.Bounds.{low_bound}
use Rattle.ac_forms.specs.Fits.{Fits}
use Rattle.ac_omega_exact.specs.ExactnessTests.{is_exact}
use Rattle.ac_omega_exact.proofs.Needed.{need_start, need-more, need-err}
use Rattle.ac_omega_exact.proofs.needs.needed_size.Goals as goal

pub loop-row-init : goal.loop-row-init
loop-row-init c = need_start (is_exact c.args.z c.args.rows.now (low_bound c.args.z c.args.low.now)) (low_bound c.args.z c.args.low.now) c.args.z c.args.rows.now

pub returns-in-Err-clause-exact : goal.returns-in-Err-clause-exact
returns-in-Err-clause-exact c = need-err (is_exact c.args.z c.args.rows.now (low_bound c.args.z c.args.low.now)) (low_bound c.args.z c.args.low.now) c.args.z c.loop-row.row-index c.args.rows.now c.row-item.result _ c.in-Err.stop c.loop-row.invariant c.loop-row-test.true c.row-item.is c.in-Err.ensures

pub loop-row-preserved : goal.loop-row-preserved
loop-row-preserved c =
    let f : Fits c.in-Ok.size = search rules in
    let s = c.in-Ok.ensures in
    need-more (is_exact c.args.z c.args.rows.now (low_bound c.args.z c.args.low.now)) (low_bound c.args.z c.args.low.now) c.args.z c.loop-row.row-index c.args.rows.now c.row-item.result _ c.in-Ok.size c.max-need.result c.loop-row.invariant c.loop-row-test.true c.row-item.is s.0 s.1 f (record { sfits = c.max-need.type_inv }) c.max-need.ensures.value
