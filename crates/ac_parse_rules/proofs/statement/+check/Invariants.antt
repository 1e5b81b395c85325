use Rattle.std.proofs.Common.{◌≡◌, drop, map}
use Rattle.ac_parse_exprs.specs.Comparisons.{first_from}
use Rattle.ac_parse_rules.specs.Statements.{statement_broken, statements_broken}
use Rattle.ac_parse_rules.proofs.statement.+check.Given as goal

abbrev pub invariant-check_statements-loop-statement : goal.invariant-check_statements-loop-statement
invariant-check_statements-loop-statement l = first_from l.broken (map (λ s. statement_broken l.names s l.scope) (drop l.statement-index l.statements)) ≡ statements_broken l.names l.scope l.statements
