use Rattle.ac_flow.proofs.KillSteps.{FoundSoFar}
use Rattle.ac_flow.proofs.case_kills.found_kills.Given as goal

abbrev pub invariant-loop-numbers : goal.invariant-loop-numbers
invariant-loop-numbers l = FoundSoFar l.budget l.m l.assumed l.writings l.numbers-index l.kills
