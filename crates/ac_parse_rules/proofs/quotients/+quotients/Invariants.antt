use Rattle.std.proofs.Common.{◌≡◌, drop, map}
use Rattle.ac_parse_exprs.specs.Comparisons.{first_from}
use Rattle.ac_parse_rules.specs.FewQuotients.{crowded, all_crowded}
use Rattle.ac_parse_rules.proofs.quotients.+quotients.Given as goal

abbrev pub invariant-check_quotients-loop-statement : goal.invariant-check_quotients-loop-statement
invariant-check_quotients-loop-statement l = first_from l.broken (map (λ s. crowded l.names s l.scope l.seen) (drop l.statement-index l.statements)) ≡ all_crowded l.names l.scope l.seen l.statements
