use Rattle.std.proofs.Common.{◌≡◌, ◌++◌, take}
use Rattle.ac_parse_rules.specs.Files.{output_numbers}
use Rattle.ac_parse_rules.proofs.file.add_outputs.Given as goal

abbrev pub invariant-loop-word : goal.invariant-loop-word
invariant-loop-word l = l.built ≡ l.fn.all ++ output_numbers l.names (take l.word-index l.words)
