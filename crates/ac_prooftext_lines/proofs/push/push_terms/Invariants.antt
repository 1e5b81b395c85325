use Rattle.std.proofs.Common.{◌≡◌, ◌++◌, drop}
use Rattle.ac_prooftext_lines.specs.Spelling.{terms_from}
use Rattle.ac_prooftext_lines.specs.LineWords.{further}
use Rattle.ac_prooftext_lines.proofs.push.push_terms.Given as goal

abbrev pub invariant-loop-column : goal.invariant-loop-column
invariant-loop-column l = l.line.items ++ further (terms_from l.column (drop l.column l.coefs)) ≡ l.fn.line.items ++ further (terms_from 0 l.coefs)
