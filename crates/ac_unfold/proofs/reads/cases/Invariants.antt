use Rattle.ac_unfold.specs.UnfoldTasks.{AreCases}
use Rattle.ac_unfold.proofs.reads.cases.Given as goal

abbrev pub invariant-loop-branch : goal.invariant-loop-branch
invariant-loop-branch l = AreCases l.search l.node l.side l.flow 0 l.yielded l.made.items
