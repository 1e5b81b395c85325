use Rattle.std.proofs.Common.{◌≡◌, ◌++◌, drop}
use Rattle.ac_parse_rules.specs.Files.{output_words, output_numbers}
use Rattle.ac_parse_rules.proofs.file.build_outputs.Given as goal

abbrev pub invariant-loop-pragma : goal.invariant-loop-pragma
invariant-loop-pragma l = l.all ++ output_numbers l.names (output_words (drop l.pragma-index l.pragmas)) ≡ output_numbers l.names (output_words l.pragmas)
