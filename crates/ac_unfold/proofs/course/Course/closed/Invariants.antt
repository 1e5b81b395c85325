use Rattle.std.proofs.Common.{length}
use Rattle.ac_unfold.proofs.Behind.{Closing}
use Rattle.ac_unfold.proofs.course.Course.closed.Given as goal

abbrev pub invariant-loop-last : goal.invariant-loop-last
invariant-loop-last l = Closing l.self.branches.items l.branches.items l.fn.end l.plan

abbrev pub decreases-loop-last : goal.decreases-loop-last
decreases-loop-last l = length l.branches.items
