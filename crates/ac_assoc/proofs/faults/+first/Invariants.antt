use Rattle.std.proofs.Common.{◌≡◌, drop}
use Rattle.ac_assoc.specs.ArrangementFaults.{first_all, fault_by}
use Rattle.ac_assoc.proofs.faults.+first.Given as goal

abbrev pub invariant-first_all-loop-stmt : goal.invariant-first_all-loop-stmt
invariant-first_all-loop-stmt l = first_all (fault_by l.names l.arity) l.stmts ≡ first_all (fault_by l.names l.arity) (drop l.stmt-index l.stmts)
