use Rattle.std.proofs.Common.{◌≡◌, ◌++◌, drop, map}
use Rattle.std.specs.Fmt.{signed_decimal}
use Rattle.ac_prooftext_lines.specs.Spelling.{pair_word, dotted_word}
use Rattle.ac_prooftext_lines.specs.LineWords.{further}
use Rattle.ac_prooftext_lines.proofs.push.push_shapes.Given as goal

abbrev pub invariant-loop-first : goal.invariant-loop-first
invariant-loop-first l = l.line.items ++ further (map dotted_word (drop l.first-index l.pairs)) ≡ l.fn.line.items ++ further (map dotted_word l.pairs)
