use Rattle.std.proofs.Common.{◌≡◌, ◌++◌, take}
use Rattle.std.specs.List.{flat_map}
use Rattle.ac_report.specs.Layouts.{counts_in}
use Rattle.ac_report.proofs.quotients.+statements.Given as goal

abbrev pub invariant-with_statements-loop-stmt : goal.invariant-with_statements-loop-stmt
invariant-with_statements-loop-stmt l = l.made ≡ l.fn.made ++ flat_map (counts_in l.around) (take l.stmt-index l.stmts)
