use Rattle.std.proofs.Common.{length}
use Rattle.ac_cert_short.specs.Drafts.{draft_nodes}
use Rattle.ac_cert_short.proofs.Shapes.{StepsDone}
use Rattle.ac_cert_short.proofs.drafting.with_steps.Given as goal

abbrev pub invariant-loop-last : goal.invariant-loop-last
invariant-loop-last l = StepsDone l.fn.steps l.left.items l.fn.uses.items l.uses.items (draft_nodes l.fn.draft) (draft_nodes l.made)

abbrev pub decreases-loop-last : goal.decreases-loop-last
decreases-loop-last l = length l.left.items
