use Rattle.ac_legal_text.proofs.Terms.{IsHalfRead}
use Rattle.ac_legal_text.proofs.times.push_coefficients.Given as goal

abbrev pub invariant-loop-column : goal.invariant-loop-column
invariant-loop-column l = IsHalfRead l.text l.columns l.column l.coefs l.rest
