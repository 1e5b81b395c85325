use Rattle.std.proofs.Common.{◌≡◌, ◌++◌, drop}
use Rattle.ac_unfold_table.specs.QuestionLists.{cases_of}
use Rattle.ac_unfold_table.proofs.stepping.push_cases.Given as goal

abbrev pub invariant-loop-number : goal.invariant-loop-number
invariant-loop-number l = l.found ++ cases_of l.params (drop l.number l.branches) (drop l.number l.cases) ≡ l.fn.found ++ cases_of l.params l.branches l.cases
