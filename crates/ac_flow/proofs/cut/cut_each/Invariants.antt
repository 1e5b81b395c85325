use Rattle.ac_flow.proofs.CutLoops.{AllHalfway}
use Rattle.ac_flow.proofs.cut.cut_each.Given as goal

abbrev pub invariant-loop-conj : goal.invariant-loop-conj
invariant-loop-conj l = AllHalfway l.pieces l.kill l.room l.fn.kept l.kept l.conj-index
