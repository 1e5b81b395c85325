use Rattle.ac_sets.proofs.Sums.{TermsHalfway}
use Rattle.ac_sets.proofs.texts.push_terms.Given as goal

abbrev pub invariant-loop-column : goal.invariant-loop-column
invariant-loop-column l = TermsHalfway l.names l.coefs l.fn.bytes.items l.bytes.items l.any l.column
