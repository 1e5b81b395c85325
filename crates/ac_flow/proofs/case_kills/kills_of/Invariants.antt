use Rattle.ac_flow.proofs.KillSteps.{Listed}
use Rattle.ac_flow.proofs.case_kills.kills_of.Given as goal

abbrev pub invariant-loop-i : goal.invariant-loop-i
invariant-loop-i l = Listed l.columns l.writings l.found l.i l.kills
