use Rattle.std.proofs.Common.{◌≡◌}
use Rattle.std.specs.List.{flat_map, range_with_len}
use Rattle.ac_unfold_table.specs.QuestionLists.{beside_of}
use Rattle.ac_unfold_table.proofs.stepping.questions_behind.Given as goal

abbrev pub invariant-loop-left : goal.invariant-loop-left
invariant-loop-left l = l.found ≡ flat_map (beside_of l.program_flows l.order l.claim l.rights.pieces) (range_with_len 0 l.left)
