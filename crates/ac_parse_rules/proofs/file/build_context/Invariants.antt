use Rattle.std.proofs.Common.{◌≡◌, ◌++◌, drop}
use Rattle.ac_parse_exprs.specs.Comparisons.{condition}
use Rattle.ac_parse_rules.specs.Files.{context_parts}
use Rattle.ac_parse_rules.proofs.file.build_context.Given as goal

abbrev pub invariant-loop-pragma : goal.invariant-loop-pragma
invariant-loop-pragma l = l.all ++ condition l.names l.scope (context_parts (drop l.pragma-index l.pragmas)) ≡ condition l.names l.scope (context_parts l.pragmas)
