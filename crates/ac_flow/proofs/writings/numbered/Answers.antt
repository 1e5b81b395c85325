use Rattle.ac_flow.proofs.WritingSteps.{numbered_next}
use Rattle.ac_flow.proofs.writings.numbered.Goals as goal

pub loop-k-preserved : goal.loop-k-preserved
loop-k-preserved c = numbered_next c.loop-k.k c.loop-k.all c.push.new.self c.loop-k.invariant c.in_ok-push.ensures.ok
