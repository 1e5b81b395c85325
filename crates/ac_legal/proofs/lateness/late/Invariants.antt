use Rattle.std.proofs.Common.{◌≡◌, [], ◌++◌, drop}
use Rattle.ac_legal_law.specs.OrderQuestions.{late}
use Rattle.ac_legal.proofs.lateness.late.Given as goal

abbrev pub invariant-loop-k : goal.invariant-loop-k
invariant-loop-k l = late l.times l.others [] ≡ l.made ++ late (drop l.k l.times) (drop l.k l.others) l.done
