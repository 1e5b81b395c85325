use Rattle.ac_flow.proofs.FlowSteps.{OutputsSoFar}
use Rattle.ac_flow.proofs.flowing.push_outputs.Given as goal

abbrev pub invariant-loop-o : goal.invariant-loop-o
invariant-loop-o l = OutputsSoFar l.m l.all l.fn.out l.o l.out
