use Rattle.ac_flow.proofs.CutSteps.{PartsSoFar}
use Rattle.ac_flow.proofs.cutting.cut_pieces.Given as goal

abbrev pub invariant-loop-d : goal.invariant-loop-d
invariant-loop-d l = PartsSoFar l.m l.case.own.now.columns l.case.own.now.rows l.case.kills.now l.room l.pieces l.d l.out
