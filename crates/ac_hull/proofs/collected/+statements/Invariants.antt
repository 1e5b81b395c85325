use Rattle.std.proofs.Common.{◌≡◌, ◌++◌, take}
use Rattle.std.specs.List.{flat_map}
use Rattle.ac_hull.specs.ProgramConstants.{numbers_of_statement}
use Rattle.ac_hull.proofs.collected.+statements.Given as goal

abbrev pub invariant-with_statements-loop-stmt : goal.invariant-with_statements-loop-stmt
invariant-with_statements-loop-stmt l = l.made ≡ l.fn.made ++ flat_map numbers_of_statement (take l.stmt-index l.stmts)
