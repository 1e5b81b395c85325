use Rattle.std.proofs.Common.{◌≡◌, ◌++◌, take}
use Rattle.std.specs.List.{flat_map}
use Rattle.ac_unfold_table.specs.QuestionLists.{at_rest_of}
use Rattle.ac_unfold_table.proofs.stepping.push_case.Given as goal

abbrev pub invariant-loop-rest : goal.invariant-loop-rest
invariant-loop-rest l = l.found ≡ l.fn.found ++ flat_map (at_rest_of l.params l.question) (take l.rest-index l.rest-items)
