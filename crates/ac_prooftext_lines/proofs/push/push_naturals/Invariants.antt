use Rattle.std.proofs.Common.{◌≡◌, ◌++◌, drop, map, decimal}
use Rattle.ac_prooftext_lines.specs.LineWords.{further}
use Rattle.ac_prooftext_lines.proofs.push.push_naturals.Given as goal

abbrev pub invariant-loop-number : goal.invariant-loop-number
invariant-loop-number l = l.line.items ++ further (map decimal (drop l.number-index l.numbers)) ≡ l.fn.line.items ++ further (map decimal l.numbers)
