use Rattle.std.proofs.Common.{◌≡◌, ◌++◌}
use Rattle.ac_unfold_table.specs.QuestionLists.{beside_of}
use Rattle.ac_unfold_table.proofs.stepping.push_beside.Given as goal

abbrev pub invariant-loop-right : goal.invariant-loop-right
invariant-loop-right l = l.found ≡ l.fn.found ++ beside_of l.program_flows l.order l.claim l.right l.left
