use Rattle.std.proofs.Common.{◌+◌}
use Rattle.ac_hull.proofs.Gatherings.{firsts_step}
use Rattle.ac_hull.proofs.claim.gathered.Goals as goal

pub loop-first-preserved : goal.loop-first-preserved
loop-first-preserved c =
    firsts_step c.args.points.now c.args.thresholds.now c.args.moduli.now (c.args.columns + 1) c.loop-first.first c.loop-first.made c.in_ok-made.made c.loop-first.invariant c.in_ok-made.ensures
