use Rattle.std.proofs.Common.{arith, ◌≡◌, ◌+◌}
use Rattle.ac_hull.specs.HullInternals.Gathering.{Gathers, OfPair}
use Rattle.ac_hull.proofs.Gatherings.{first_step}
use Rattle.ac_hull.proofs.claim.with_first.Goals as goal

pub loop-second-preserved : goal.loop-second-preserved
loop-second-preserved c =
    let g : Gathers c.args.points.now (OfPair c.args.thresholds.now c.args.moduli.now c.args.points.now c.args.first c.loop-second.second) c.loop-second.made c.in_ok-made.made = rw c.as_slice.ensures at c.in_ok-made.ensures in
    first_step c.args.points.now c.args.thresholds.now c.args.moduli.now c.args.first c.loop-second.second c.args.made c.loop-second.made c.in_ok-made.made c.loop-second.invariant g

pub returns : goal.returns
returns c =
    let e : c.loop-second.second ≡ c.args.columns + 1 = (let l = c.loop-second-test.false in let k = c.loop-second.auto.second-end in omega arith) in
    rw e at c.loop-second.invariant
