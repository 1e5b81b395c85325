use Rattle.std.proofs.Common.{◌≡◌, ◌+◌, drop, length, slice_get}
use Rattle.ac_parse_rules.specs.Statements.{all_targets}
use Rattle.ac_parse_rules.proofs.statement.+target.Given as goal

abbrev pub invariant-target_in-loop-statement : goal.invariant-target_in-loop-statement
invariant-target_in-loop-statement l = record {
  same : slice_get (all_targets (drop l.statement-index l.statements)) l.missing ≡ slice_get (all_targets l.statements) l.fn.n;
  count : l.fn.n + length (all_targets (drop l.statement-index l.statements)) ≡ l.missing + length (all_targets l.statements);
}
