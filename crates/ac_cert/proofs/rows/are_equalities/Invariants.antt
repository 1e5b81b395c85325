use Rattle.std.proofs.Common.{◌≡◌, drop}
use Rattle.ac_cert.specs.Rules.{are_equalities}
use Rattle.ac_cert.proofs.rows.are_equalities.Given as goal

abbrev pub invariant-loop-term : goal.invariant-loop-term
invariant-loop-term l = are_equalities l.terms l.rows ≡ are_equalities (drop l.term-index l.terms) l.rows
