use Rattle.std.proofs.Common.{◌≡◌, drop}
use Rattle.ac_parse_rules.specs.Files.{has_output_line}
use Rattle.ac_parse_rules.proofs.file.has_output_line.Given as goal

abbrev pub invariant-loop-pragma : goal.invariant-loop-pragma
invariant-loop-pragma l = has_output_line (drop l.pragma-index l.pragmas) ≡ has_output_line l.pragmas
