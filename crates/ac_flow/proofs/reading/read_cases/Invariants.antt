use Rattle.ac_flow.specs.FlowCases.{seen}
use Rattle.ac_flow.proofs.ReadSteps.{SoFar}
use Rattle.ac_flow.proofs.reading.read_cases.Given as goal

abbrev pub invariant-loop-i : goal.invariant-loop-i
invariant-loop-i l = SoFar l.budget l.m (seen l.reader) l.sources l.i l.cases l.room
