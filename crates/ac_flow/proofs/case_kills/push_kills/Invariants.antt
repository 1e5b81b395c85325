use Rattle.ac_flow.proofs.KillSteps.{Pushed}
use Rattle.ac_flow.proofs.case_kills.push_kills.Given as goal

abbrev pub invariant-loop-piece : goal.invariant-loop-piece
invariant-loop-piece l = Pushed l.columns l.numbers l.found l.fn.out l.piece-index l.out
