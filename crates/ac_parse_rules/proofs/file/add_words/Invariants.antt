use Rattle.std.proofs.Common.{◌≡◌, ◌++◌, take, map}
use Rattle.ac_parse_rules.proofs.file.add_words.Given as goal

abbrev pub invariant-loop-word : goal.invariant-loop-word
invariant-loop-word l = l.built ≡ l.fn.all ++ map (λ word. word.name) (take l.word-index l.words)
