use Rattle.std.proofs.Common.{◌≡◌}
use Rattle.ac_omega.specs.WalkAnswers.{columns_to}
use Rattle.ac_omega.proofs.decision.all_columns.Given as goal

abbrev pub invariant-loop-z : goal.invariant-loop-z
invariant-loop-z l = l.vars.items ≡ columns_to l.z
