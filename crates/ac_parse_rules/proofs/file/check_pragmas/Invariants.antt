use Rattle.std.proofs.Common.{◌≡◌, drop, map}
use Rattle.ac_parse_exprs.specs.Comparisons.{first_from, first_of}
use Rattle.ac_parse_rules.specs.Files.{pragma_broken}
use Rattle.ac_parse_rules.proofs.file.check_pragmas.Given as goal

abbrev pub invariant-loop-pragma : goal.invariant-loop-pragma
invariant-loop-pragma l = first_from l.broken (map (pragma_broken l.names l.scope l.inputs) (drop l.pragma-index l.pragmas)) ≡ first_of (map (pragma_broken l.names l.scope l.inputs) l.pragmas)
