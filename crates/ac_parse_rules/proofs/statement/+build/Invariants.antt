use Rattle.std.proofs.Common.{◌≡◌, take}
use Rattle.ac_parse_rules.specs.Statements.{stmts}
use Rattle.ac_parse_rules.proofs.statement.+build.Given as goal

abbrev pub invariant-build_statements-loop-statement : goal.invariant-build_statements-loop-statement
invariant-build_statements-loop-statement l = l.built ≡ stmts l.names l.scope (take l.statement-index l.statements)
