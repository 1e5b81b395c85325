use Rattle.std.proofs.Common.{◌≡◌, map, take}
use Rattle.std.specs.List.{AllByRecursion}
use Rattle.std.specs.Str.{IsUtf8}
use Rattle.ac_cli_args.specs.Commands.{spelled}
use Rattle.ac_cli_args.proofs.command.texts_of.Given as goal

abbrev pub invariant-loop-word : goal.invariant-loop-word
invariant-loop-word l = (map (λ s. s.now) l.texts.items ≡ spelled (take l.word-index l.words)) × AllByRecursion IsUtf8 (spelled (take l.word-index l.words))
