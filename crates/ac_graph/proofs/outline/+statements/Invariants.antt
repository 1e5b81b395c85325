use Rattle.std.proofs.Common.{◌≡◌, ◌++◌, take}
use Rattle.std.specs.List.{flat_map}
use Rattle.ac_graph.specs.ProgramOutlines.{outlines}
use Rattle.ac_graph.proofs.outline.+statements.Given as goal

abbrev pub invariant-with_statements-loop-stmt : goal.invariant-with_statements-loop-stmt
invariant-with_statements-loop-stmt l = l.made ≡ l.fn.made ++ flat_map outlines (take l.stmt-index l.stmts)
