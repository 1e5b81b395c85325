use Rattle.std.proofs.Common.{◌≡◌, ◌++◌, drop, map}
use Rattle.std.specs.Fmt.{signed_decimal}
use Rattle.ac_prooftext_lines.specs.Spelling.{pair_word, dotted_word}
use Rattle.ac_prooftext_lines.specs.LineWords.{further}
use Rattle.ac_prooftext_lines.proofs.push.push_integers.Given as goal

abbrev pub invariant-loop-number : goal.invariant-loop-number
invariant-loop-number l = l.line.items ++ further (map signed_decimal (drop l.number-index l.numbers)) ≡ l.fn.line.items ++ further (map signed_decimal l.numbers)
