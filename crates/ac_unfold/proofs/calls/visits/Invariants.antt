use Rattle.ac_unfold.specs.UnfoldTasks.{AreVisits}
use Rattle.ac_unfold.proofs.calls.visits.Given as goal

abbrev pub invariant-loop-branch : goal.invariant-loop-branch
invariant-loop-branch l = AreVisits l.node l.yielded l.made.items
