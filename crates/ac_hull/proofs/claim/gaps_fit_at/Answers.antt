use Rattle.std.proofs.Common.{refl, arith}
use Rattle.ac_hull.proofs.Resting.{gaps_all}
use Rattle.ac_hull.proofs.claim.gaps_fit_at.Goals as goal

pub returns : goal.returns
returns c = let l = c.loop-first-test.false in ((λ t. gaps_all c.args.point.now c.args.columns c.loop-first.first c.loop-first.invariant (omega arith) c.requires.width), (λ g. refl))
