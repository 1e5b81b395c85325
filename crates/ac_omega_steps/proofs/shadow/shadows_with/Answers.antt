use Rattle.std.proofs.Common.{rules}
use Rattle.ac_omega_steps.proofs.Parts.{shadows-more}
use Rattle.ac_omega_steps.proofs.shadow.shadows_with.Goals as goal

pub loop-high-preserved : goal.loop-high-preserved
loop-high-preserved c = shadows-more c.args.low.now c.loop-high.high-index c.args.highs.now _ _ _ c.high-item.result c.in-Some.form c.loop-high.invariant c.loop-high-test.true c.high-item.is (search rules) (search rules)
