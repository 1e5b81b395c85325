use Rattle.std.proofs.Common.{◌≡◌, drop, map}
use Rattle.ac_parse_exprs.specs.Comparisons.{first_from, first_of}
use Rattle.ac_parse_rules.specs.Files.{output_broken}
use Rattle.ac_parse_rules.proofs.file.check_outputs.Given as goal

abbrev pub invariant-loop-word : goal.invariant-loop-word
invariant-loop-word l = first_from l.broken (map (output_broken l.names l.inputs) (drop l.word-index l.words)) ≡ first_of (map (output_broken l.names l.inputs) l.words)
