use Rattle.std.proofs.Common.{◌≡◌, drop}
use Rattle.ac_cert.specs.Rules.{sum_from, zero_form}
use Rattle.ac_cert.proofs.rows.sum_of.Given as goal

abbrev pub invariant-loop-term : goal.invariant-loop-term
invariant-loop-term l = sum_from zero_form l.terms l.rows ≡ sum_from l.sum (drop l.term-index l.terms) l.rows
