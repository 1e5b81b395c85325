use Rattle.std.proofs.Common.{◌≡◌, ◌++◌, take}
use Rattle.std.specs.List.{flat_map}
use Rattle.ac_syntax.specs.Text.{stmt_text}
use Rattle.ac_syntax.proofs.print.statements.+statement.Given as goal

abbrev pub invariant-push_body-loop-stmt : goal.invariant-push_body-loop-stmt
invariant-push_body-loop-stmt l = l.bytes.items ≡ l.fn.bytes.items ++ flat_map (stmt_text l.scope l.indent) (take l.stmt-index l.body)
