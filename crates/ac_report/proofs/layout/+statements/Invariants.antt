use Rattle.std.proofs.Common.{◌≡◌, ◌++◌, take}
use Rattle.std.specs.List.{flat_map}
use Rattle.ac_report.specs.Layouts.{assignments_of}
use Rattle.ac_report.proofs.layout.+statements.Given as goal

abbrev pub invariant-with_statements-loop-stmt : goal.invariant-with_statements-loop-stmt
invariant-with_statements-loop-stmt l = l.made ≡ l.fn.made ++ flat_map (assignments_of l.loops) (take l.stmt-index l.stmts)
