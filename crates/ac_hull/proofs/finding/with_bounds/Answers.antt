use Rattle.std.proofs.Common.{rules, get_or, pos}
use Rattle.ac_hull.specs.ColumnDifferences.{bound}
use Rattle.ac_hull.specs.HullInternals.Finding.{AddsRow}
use Rattle.ac_hull.proofs.Findings.{bounds_step, bounds_end}
use Rattle.ac_hull.proofs.finding.with_bounds.Goals as goal

pub loop-threshold-preserved : goal.loop-threshold-preserved
loop-threshold-preserved c =
    let r : AddsRow c.args.points.now (bound c.args.first c.args.second (get_or c.args.thresholds.now c.loop-threshold.threshold-index (pos 0))) c.loop-threshold.made c.in_ok-made.made = rw c.bound.ensures at c.in_ok-made.ensures in
    bounds_step c.args.points.now c.args.first c.args.second c.args.made c.loop-threshold.made c.in_ok-made.made c.args.thresholds.now c.loop-threshold.threshold-index c.loop-threshold.invariant c.loop-threshold-test.true r

pub returns : goal.returns
returns c = bounds_end c.args.points.now c.args.first c.args.second c.args.made c.loop-threshold.made c.args.thresholds.now c.loop-threshold.threshold-index c.loop-threshold.invariant (search rules)
